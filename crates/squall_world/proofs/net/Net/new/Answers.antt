use Rattle.std.proofs.Common.{◌≡◌, List, [], ◌∷◌, ◌++◌, refl, sym, subst, ◌∙◌}
use Rattle.std.specs.Arc.{arc_value}
use Rattle.std.proofs.lemmas.List.{with_items_is}
use Rattle.std.proofs.lemmas.Result.{IfOk-from_err}
use Rattle.squall_key.specs.Keys.{part_limit}
use Rattle.squall_course.specs.Change.{Change}
use Rattle.squall_world.specs.Nets.{PeerValue}
use Rattle.squall_world.specs.Naming.{AreNoted}
use Rattle.squall_world.proofs.First.{first_net}
use Rattle.squall_world.proofs.net.Net.new.Goals as goal

pub returns-in_err-leader : goal.returns-in_err-leader
returns-in_err-leader c = IfOk-from_err c.from_residual.result _ c.from_residual.ensures.0

pub returns-in_err-places : goal.returns-in_err-places
returns-in_err-places c = IfOk-from_err c.from_residual-in_err-places.result _ c.from_residual-in_err-places.ensures.0

pub returns-in_err-peers : goal.returns-in_err-peers
returns-in_err-peers c = IfOk-from_err c.from_residual-in_err-peers.result _ c.from_residual-in_err-peers.ensures.0

pub returns-in_err-push : goal.returns-in_err-push
returns-in_err-push c = IfOk-from_err c.from_residual-in_err-push.result _ c.from_residual-in_err-push.ensures.0

pub note_places-requires-clause-noted : goal.note_places-requires-clause-noted
note_places-requires-clause-noted c = subst (AreNoted []) (sym c.deref_mut.ensures.value) c.in_ok-places.ensures

pub returns : goal.returns
returns c =
    let first : Change = arc_value c.args.first.now in
    let peers : c.deref-2.result.now ≡ c.in_ok-peers.peers.items = c.deref-2.ensures.value in
    let size : c.in_ok-places.places.len ≡ part_limit = c.in_ok-places.places.ok.0 ∙ c.in_ok-places.ensures.length in
    let places = with_items_is c.in_ok-places.places c.note_places.new.places (c.note_places.ensures.length ∙ sym size) in
    let noted : AreNoted c.in_ok-peers.peers.items c.note_places.new.places = subst (λ (ps : List PeerValue). AreNoted ps c.note_places.new.places) peers c.note_places.ensures in
    let courses = c.in_ok-push.ensures.items ∙ (λ i. c.new-courses.ensures.items i ++ (c.new.ensures ∙ c.in_ok-try_clone.ensures) i ∷ []) in
    first_net first.old first.new c.args.routers _ c.in_ok-leader.leader first c.new-2.ensures.items (λ i. record { number = c.requires i; old = first.old; new = first.new }) c.in_ok-leader.ensures.node courses c.in_ok-peers.ensures.nodes c.in_ok-peers.ensures.valid
    (subst (AreNoted c.in_ok-peers.peers.items) (sym places) noted) refl c.new-3.ensures.items c.new-4.ensures.items
