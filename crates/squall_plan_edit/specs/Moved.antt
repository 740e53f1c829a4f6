-- Keys that go to other partitions than a plan says (this project).
use Rattle.std.specs.Prelude.{◌≡◌, ℕ, ◌<◌, List, ◌++◌, reverse, if◌then◌else◌}
use Rattle.squall_key.specs.Keys.{top}
use Rattle.squall_span.specs.Spans.{Interval, span_has}
use Rattle.squall_plan.specs.declared.range.PlanRange.{PlanRange}
use Rattle.squall_plan.specs.Ranges.{IsCanonical, AreRanges, owner_of}

-- the partition of the key once ranges are given away: that of the last one that has the key, or else that of the plan
abbrev pub owner_after : List PlanRange → List PlanRange → ℕ → ℕ
owner_after given old k = owner_of (reverse given ++ old) k

-- the partition of the key once the keys of a span are at a partition: that one, or else that of the plan
abbrev pub owner_moved : Interval → ℕ → List PlanRange → ℕ → ℕ
owner_moved span part old k = if span_has span k then part else owner_of old k

-- the ranges are those of a plan, but for how many they are, which has each key at the partition that the function says
pub record HasOwners (f : ℕ → ℕ) (plan : List PlanRange) : Type 0 where
  pub canonical : IsCanonical plan
  pub ranges : AreRanges plan
  pub owners : (k : ℕ) → k < top → owner_of plan k ≡ f k
