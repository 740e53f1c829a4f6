use Rattle.std.proofs.Common.{◌+◌, ◌<◌, ℕ, None, Some, take, set, refl, sym, ap, subst, ◌∙◌}
use Rattle.std.proofs.lemmas.List.{set-get_or}
use Rattle.squall_key.specs.Keys.{part_limit}
use Rattle.squall_world.specs.Nets.{PeerValue}
use Rattle.squall_world.specs.Naming.{AreNoted}
use Rattle.squall_world.proofs.Named.{note_old, note_new}
use Rattle.squall_world.proofs.naming.note_place.Goals as goal

pub returns-then-is_none : goal.returns-then-is_none
returns-then-is_none c =
    let role = sym (ap (λ (p : PeerValue). p.role) c.peer.view_is) ∙ c.in-Part.is in
    let id = c.get.ensures.value ∙ c.id.ensures in
    let below = subst (λ (k : ℕ). k < part_limit) id c.get.ensures.below in
    let new = note_new c.args.peers.now c.args.at c.index-peers-at.result c.args.places.now c.requires.at c.index-peers-at.is c.requires.noted c.in-Part.part role below _ refl (rw id at c.if-is_none.ensures) in
    subst (λ (k : ℕ). AreNoted (take (c.args.at + 1) c.args.peers.now) (set c.args.places.now k (Some c.args.at))) (sym id) new

pub returns-else-is_none : goal.returns-else-is_none
returns-else-is_none c =
    let role = sym (ap (λ (p : PeerValue). p.role) c.peer.view_is) ∙ c.in-Part.is in
    let id = c.get.ensures.value ∙ c.id.ensures in
    let below = subst (λ (k : ℕ). k < part_limit) id c.get.ensures.below in
    let old = note_old c.args.peers.now c.args.at c.index-peers-at.result c.args.places.now c.requires.at c.index-peers-at.is c.requires.noted c.in-Part.part role below _ refl (rw id at c.if-is_none.ensures) in
    subst (AreNoted (take (c.args.at + 1) c.args.peers.now)) (sym (set-get_or c.args.places.now c.get.result None)) old
