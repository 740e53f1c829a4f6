use Rattle.std.proofs.Common.{◌<◌, List, length, subst}
use Rattle.squall_plan.specs.declared.range.PlanRange.{PlanRange}
use Rattle.squall_plan.specs.Arranged.{range_limit}
use Rattle.squall_plan_edit.specs.Shares.{owner_shared}
use Rattle.squall_plan_edit.proofs.Legs.{too_many}
use Rattle.squall_plan_edit.proofs.share.split.Goals as goal

pub returns-clause-many : goal.returns-clause-many
returns-clause-many c = λ refused plan has.
    too_many (owner_shared c.args.below c.args.parts.now) c.in_ok-ranges.ranges.items plan c.in_ok-ranges.ensures has
    (subst (λ (rs : List PlanRange). range_limit < length rs) c.deref.ensures.value (c.plan_of.ensures.many refused))
