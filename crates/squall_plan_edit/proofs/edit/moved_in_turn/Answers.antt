use Rattle.std.proofs.Common.{◌<◌, List, length, subst}
use Rattle.squall_plan.specs.declared.range.PlanRange.{PlanRange}
use Rattle.squall_plan.specs.Arranged.{range_limit}
use Rattle.squall_plan_edit.specs.Moved.{owner_after}
use Rattle.squall_plan_edit.proofs.Legs.{too_many}
use Rattle.squall_plan_edit.proofs.edit.moved_in_turn.Goals as goal

pub returns-clause-many : goal.returns-clause-many
returns-clause-many c = λ refused plan has.
    too_many (owner_after c.args.given.now c.args.old.now) c.in_ok-ranges.ranges.items plan c.in_ok-ranges.ensures has
    (subst (λ (rs : List PlanRange). range_limit < length rs) c.deref.ensures.value (c.plan_of.ensures.many refused))
