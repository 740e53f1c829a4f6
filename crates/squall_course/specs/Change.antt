-- A numbered change from an old plan to a new one.
use Rattle.std.specs.Prelude.{ℕ, List}
use Rattle.squall_plan.specs.declared.range.PlanRange.{PlanRange}
use Rattle.squall_plan.specs.Ranges.{AreRanges, IsCanonical}

pub record Change : Type 0 where
  pub number : ℕ
  pub old : List PlanRange
  pub new : List PlanRange

-- both are the lists of plans: canonical, of ranges with keys and of partitions within the limit
pub record ArePlans (old new : List PlanRange) : Type 0 where
  pub old_canonical : IsCanonical old
  pub new_canonical : IsCanonical new
  pub old_ranges : AreRanges old
  pub new_ranges : AreRanges new
