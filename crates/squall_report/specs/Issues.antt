-- The pair of plans that is issued under the number of a reconfiguration (this project).
use Rattle.std.specs.Prelude.{Bool, ◌&&◌, List}
use Rattle.squall_plan.specs.declared.range.PlanRange.{PlanRange}
use Rattle.squall_plan.specs.Equal.{are_same_ranges}

-- the plan from which a reconfiguration leads, and the plan to which it leads
pub record PlanPair : Type 0 where
  pub old : List PlanRange
  pub new : List PlanRange

abbrev pub plan_pair : List PlanRange → List PlanRange → PlanPair
plan_pair old new = record { old = old; new = new }

-- both plans are the same
abbrev pub is_same_pair : PlanPair → PlanPair → Bool
is_same_pair x y = are_same_ranges x.old y.old && are_same_ranges x.new y.new
