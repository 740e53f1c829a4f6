use Rattle.std.proofs.Common.{◌≡◌, Some, get_or, refl, ap, subst, ◌∙◌, rules}
use Rattle.std.proofs.lemmas.Option.{slice_get_read}
use Rattle.std.specs.List.{slice_get}
use Rattle.squall_protocol.specs.declared.event.Node.TheVariants.{Part}
use Rattle.squall_world.specs.Nets.{NetValue, place_of}
use Rattle.squall_world.proofs.Standing.{part_peer}
use Rattle.squall_world.proofs.Demands.{put_in, loaded, loaded_again, load_refused}
use Rattle.squall_world.proofs.net.Net.load.Goals as goal
use Rattle.squall_world.proofs.net.Net.load.Goals.{in-Ok-Loaded, in-Ok-Again, in-Err}

pub load-requires : goal.load-requires
load-requires c =
    let place : place_of c.args.self.now (Part c.in-Some.chunk.now.dest) ≡ Some c.in-Some-place.at = subst (λ p. place_of c.args.self.now (Part p) ≡ Some c.in-Some-place.at) c.dest.ensures (search rules) in
    part_peer c.args.self.now c.in-Some.chunk.now.dest c.in-Some-place.at c.index_mut.result.now place (search rules)

pub returns : goal.returns
returns c =
    let put = ap (λ (n : NetValue). put_in n c.in-Some-place.at c.load.new.self n.chunks) c.self.view_is in
    let place : place_of c.args.self.now (Part c.in-Some.chunk.now.dest) ≡ Some c.in-Some-place.at = subst (λ p. place_of c.args.self.now (Part p) ≡ Some c.in-Some-place.at) c.dest.ensures (search rules) in
    let here : slice_get c.args.self.now.chunks c.args.index ≡ Some c.in-Some.chunk.now = subst (λ xs. slice_get xs c.args.index ≡ Some c.in-Some.chunk.now) (c.deref.ensures.value ∙ ap (λ (n : NetValue). n.chunks) c.self.view_is) (slice_get_read c.deref.result.now _ c.args.index c.in-Some.chunk.now refl c.in-Some.ensures.lookup.3.0 c.in-Some.ensures.lookup.1) in
    let read : c.index_mut.result.now ≡ get_or c.args.self.now.peers c.in-Some-place.at c.index_mut.result.now = search rules in
    elim c.match-load.branch [
      | in-Ok-Loaded w ↦ rw w.result-is (loaded c.args.self.now _ c.args.index c.in-Some.chunk.now c.in-Some-place.at c.index_mut.result.now c.load.new.self put here place read w.in-Ok-Loaded.report (rw w.in-Ok-Loaded.field-0-is at w.in-Ok-Loaded.ensures))
      | in-Ok-Again w ↦ rw w.result-is (loaded_again c.args.self.now _ c.args.index c.in-Some.chunk.now c.in-Some-place.at c.index_mut.result.now c.load.new.self put here place read (rw w.in-Ok-Again.field-0-is at w.in-Ok-Again.ensures))
      | in-Err w ↦ rw w.result-is (load_refused c.args.self.now _ c.args.index c.in-Some.chunk.now c.in-Some-place.at c.index_mut.result.now c.load.new.self put here place read w.in-Err.fault _ w.not_loaded.ensures w.in-Err.ensures)
    ]
