use Rattle.std.proofs.Common.{◌≡◌, ℕ, List, Bool, false, get_or, length, ap, subst, ◌∙◌, ◌||◌}
use Rattle.std.specs.Result.{IfOk}
use Rattle.std.specs.Arc.{arc_value}
use Rattle.std.specs.Vec.{with_items}
use Rattle.squall_course.specs.Change.{Change}
use Rattle.squall_plan.specs.declared.range.PlanRange.{PlanRange}
use Rattle.squall_plan.specs.Ranges.{names}
use Rattle.squall_protocol.specs.Worlds.{first_parts}
use Rattle.squall_world.specs.Nets.{PeerValue}
use Rattle.squall_world.specs.Naming.{missing_below}
use Rattle.squall_world.specs.Events.{part_peers}
use Rattle.squall_world.proofs.Named.{fresh_length, marked_is, first_parts_is}
use Rattle.squall_world.proofs.starting.first_parts.Goals as goal

pub returns-clause-nodes : goal.returns-clause-nodes
returns-clause-nodes c =
    let course = arc_value c.args.first.now in
    let size = fresh_length c.in_ok-named.named c.in_ok-named.ensures in
    let between = marked_is c.in_ok-named.named c.mark.new.named c.deref_mut-2.result.now size c.mark.ensures.length c.deref_mut-2.ensures.value in
    let marked = marked_is (with_items c.in_ok-named.named c.mark.new.named) c.mark-2.new.named c.deref-3.result.now size c.mark-2.ensures.length c.deref-3.ensures.value in
    let old : c.old_plan.result.now ≡ course.old = c.old_plan.ensures.value ∙ ap (λ (k : Change). k.old) c.deref.ensures in
    let new : c.new_plan.result.now ≡ course.new = c.new_plan.ensures.value ∙ ap (λ (k : Change). k.new) c.deref-2.ensures in
    let first : (p : ℕ) → get_or c.mark.new.named p false ≡ (get_or c.deref_mut.result.now p false || names course.old p) = λ p. c.mark.ensures.marks p ∙ ap (λ (rs : List PlanRange). get_or c.deref_mut.result.now p false || names rs p) old in
    let second : (p : ℕ) → get_or c.mark-2.new.named p false ≡ (get_or c.mark.new.named p false || names course.new p) =
    λ p. c.mark-2.ensures.marks p ∙ ap (λ (rs : List PlanRange). get_or c.deref_mut-2.result.now p false || names rs p) new ∙ ap (λ (xs : List Bool). get_or xs p false || names course.new p) between in
    let missing = first_parts_is c.mark-2.new.named c.deref_mut.result.now c.mark.new.named c.args.places.now course.old course.new c.requires c.mark-2.ensures.length (c.deref_mut.ensures.value ∙ c.in_ok-named.ensures) first second in
    let nodes : part_peers course (missing_below (length c.deref-3.result.now) c.deref-3.result.now c.args.places.now) ≡ part_peers course (first_parts course.old course.new) =
    ap (λ (xs : List Bool). part_peers course (missing_below (length xs) xs c.args.places.now)) marked ∙ ap (part_peers course) missing in
    subst (λ (ps : List PeerValue). IfOk c.new_parts.result (λ peers. peers.items ≡ ps)) nodes c.new_parts.ensures.nodes
