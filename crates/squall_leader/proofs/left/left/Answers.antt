use Rattle.std.proofs.Common.{◌<◌, List, length, subst}
use Rattle.squall_plan.specs.declared.range.PlanRange.{PlanRange}
use Rattle.squall_plan.specs.Arranged.{range_limit}
use Rattle.squall_leader.proofs.Leaving.{too_many}
use Rattle.squall_leader.proofs.left.left.Goals as goal

pub returns-clause-many : goal.returns-clause-many
returns-clause-many c = λ refused plan left.
    too_many c.args.course.now c.args.loaded.now c.in_ok-ranges.ranges.items plan c.in_ok-ranges.ensures left
    (subst (λ (rs : List PlanRange). range_limit < length rs) c.deref.ensures.value (c.plan_of.ensures.many refused))
