-- What private functions find on the way to the plan (this project). No public contract cites these definitions.
use Rattle.std.specs.Prelude.{◌≡◌, ℕ, ◌<◌, ◌≤◌, List}
use Rattle.squall_plan.specs.declared.range.PlanRange.{PlanRange}
use Rattle.squall_plan.specs.Ranges.{IsRange, AreRanges, IsTiling, Differ, owner_of}

-- from the bound on up to the end of the range, the partition that the function says is that of the range
pub record IsHeld (f : ℕ → ℕ) (at : ℕ) (r : PlanRange) : Type 0 where
  pub beyond : at < r.span.hi
  pub keys : (k : ℕ) → at ≤ k → k < r.span.hi → f k ≡ r.part

-- a range that begins at the bound, each key of which has the partition that the function says
pub record IsLeg (f : ℕ → ℕ) (at : ℕ) (r : PlanRange) : Type 0 where
  pub starts : r.span.lo ≡ at
  pub range : IsRange r
  pub keys : (k : ℕ) → at ≤ k → k < r.span.hi → f k ≡ r.part

-- the ranges go from one bound to another, neighbours of different partitions, and each key has the partition that the function says
pub record AreLegs (f : ℕ → ℕ) (from to : ℕ) (rs : List PlanRange) : Type 0 where
  pub tiles : IsTiling from to rs
  pub differ : Differ rs
  pub ranges : AreRanges rs
  pub owners : (k : ℕ) → from ≤ k → k < to → owner_of rs k ≡ f k
