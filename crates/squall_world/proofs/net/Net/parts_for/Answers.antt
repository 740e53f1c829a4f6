use Rattle.std.proofs.Common.{◌≡◌, List, get_or, length, ap, subst, ◌∙◌}
use Rattle.std.specs.Result.{IfOk}
use Rattle.std.specs.Arc.{arc_value}
use Rattle.squall_world.specs.Nets.{NetValue, PeerValue, first_of}
use Rattle.squall_world.specs.Naming.{missing_below}
use Rattle.squall_world.specs.Events.{part_peers, named_first}
use Rattle.squall_world.proofs.Standing.{first_read}
use Rattle.squall_world.proofs.Named.{fresh_length, marked_is, named_first_is}
use Rattle.squall_world.proofs.net.Net.parts_for.Goals as goal

pub returns-clause-nodes : goal.returns-clause-nodes
returns-clause-nodes c =
    let marked = marked_is c.in_ok-named.named c.mark.new.named c.deref.result.now (fresh_length c.in_ok-named.named c.in_ok-named.ensures) c.mark.ensures.length c.deref.ensures.value in
    let first = c.as_arc.ensures ∙ first_read c.args.self.now c.index.result.now c.requires (c.index.ensures ∙ ap (λ (n : NetValue). get_or n.courses 0 c.index.result.now) c.self.view_is) in
    let places = c.deref-2.ensures.value ∙ ap (λ (n : NetValue). n.places) c.self.view_is in
    let missing = named_first_is c.args.self.now c.mark.new.named c.deref_mut.result.now c.args.plan.now c.requires.placed c.mark.ensures.length (c.deref_mut.ensures.value ∙ c.in_ok-named.ensures) c.mark.ensures.marks in
    let nodes : part_peers (arc_value c.as_arc.result.now) (missing_below (length c.deref.result.now) c.deref.result.now c.deref-2.result.now) ≡ part_peers (first_of c.args.self.now) (named_first c.args.self.now c.args.plan.now) =
    (λ i. part_peers (first i) (missing_below (length (marked i)) (marked i) (places i))) ∙ ap (part_peers (first_of c.args.self.now)) missing in
    subst (λ (ps : List PeerValue). IfOk c.new_parts.result (λ peers. peers.items ≡ ps)) nodes c.new_parts.ensures.nodes
