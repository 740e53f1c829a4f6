-- Where a course leaves keys that ends early: a key that is loaded is at its new partition, any other at its old one (this project).
use Rattle.std.specs.Prelude.{◌≡◌, ℕ, ◌<◌, List, if◌then◌else◌}
use Rattle.squall_key.specs.Keys.{top}
use Rattle.squall_span.specs.Spans.{Interval, has}
use Rattle.squall_plan.specs.declared.range.PlanRange.{PlanRange}
use Rattle.squall_plan.specs.Ranges.{IsCanonical, AreRanges, owner_of}
use Rattle.squall_course.specs.Change.{Change}

-- the partition at which the course leaves the key, if the keys of the set are loaded
abbrev pub left_at : Change → List Interval → ℕ → ℕ
left_at c loaded k = if has loaded k then owner_of c.new k else owner_of c.old k

-- the ranges are those of a plan, but for how many they are, which has each key where the course leaves it
pub record AreLeft (c : Change) (loaded : List Interval) (plan : List PlanRange) : Type 0 where
  pub canonical : IsCanonical plan
  pub ranges : AreRanges plan
  pub owners : (k : ℕ) → k < top → owner_of plan k ≡ left_at c loaded k
