-- What private functions find on the way to a course's answers (this project). No public contract cites these definitions.
use Rattle.std.specs.Prelude.{◌≡◌, ℕ, ◌+◌, ◌*◌, ◌<◌, ◌≤◌, ◌==◌, ◌&&◌, true, false, Bool, List, [], ◌∷◌, Option, None, Some}
use Rattle.std.specs.List.{list_any, AllByRecursion}
use Rattle.std.specs.List.Sorted.{IsNonDecreasingBy, IsPermutation}
use Rattle.squall_key.specs.Keys.{part_limit}
use Rattle.squall_span.specs.Spans.{Interval, has}
use Rattle.squall_plan.specs.declared.range.PlanRange.{PlanRange}
use Rattle.squall_course.specs.declared.link.Link.{Link}
use Rattle.squall_course.specs.declared.moving.Move.{Move}
use Rattle.squall_course.specs.Change.{ArePlans}
use Rattle.squall_course.specs.Subplans.{subplan_count}
use Rattle.squall_course.specs.Moves.{goes_to, moves_of}
use Rattle.squall_course.specs.Links.{IsTable}

-- ranges with keys, each from the end of the one before it on, the first from a given bound on
abbrev pub Follow : ℕ → List PlanRange → Type 0
Follow from [] = Unit {0}
Follow from (r ∷ rs) = (from ≤ r.span.lo) × (r.span.lo < r.span.hi) × Follow r.span.hi rs

-- numbers that rise, the first from a given one on
abbrev pub Up : ℕ → List ℕ → Type 0
Up from [] = Unit {0}
Up from (x ∷ xs) = (from ≤ x) × Up (x + 1) xs

-- the move leaves the partition in the sub-plan
abbrev pub leaves : ℕ → ℕ → Move → Bool
leaves sub part m = (m.sub == sub) && (m.source == part)

-- the place of a sub-plan and a partition, in the order by sub-plan, then by partition
abbrev pub place : ℕ → ℕ → ℕ
place sub part = sub * part_limit + part

-- the place of a move among those that leave, by sub-plan, then by source
abbrev pub leaving_place : Move → ℕ
leaving_place m = place m.sub m.source

-- the place of a move among those that arrive, by sub-plan, then by destination
abbrev pub arriving_place : Move → ℕ
arriving_place m = place m.sub m.dest

-- both partitions of the move are within the limit
abbrev pub IsLow : Move → Type 0
IsLow m = (m.source < part_limit) × (m.dest < part_limit)

-- moves by rising place, of partitions within the limit
pub record AreByPlace (place_of : Move → ℕ) (xs : List Move) : Type 0 where
  pub rises : IsNonDecreasingBy place_of xs
  pub low : AllByRecursion IsLow xs

-- the second list has the moves of the first, by rising place
pub record AreFiled (place_of : Move → ℕ) (ms xs : List Move) : Type 0 where
  pub same : IsPermutation ms xs
  pub rises : IsNonDecreasingBy place_of xs

-- what a course keeps: its number from 1 on, both plans, and what follows from these for links, moves and sub-plans
pub record IsKept (number : ℕ) (old new : List PlanRange) (table : List Link) (moves leaving arriving : List Move) (subplans : ℕ) : Type 0 where
  pub numbered : 1 ≤ number
  pub plans : ArePlans old new
  pub linked : IsTable old new table
  pub listed : moves ≡ moves_of old new
  pub counted : subplans ≡ subplan_count old new
  pub left : AreFiled leaving_place (moves_of old new) leaving
  pub arrived : AreFiled arriving_place (moves_of old new) arriving

-- the partitions to which moves go in the sub-plan, in rising number
pub record AreReceivers (ms : List Move) (sub : ℕ) (parts : List ℕ) : Type 0 where
  pub rises : Up 0 parts
  pub each : (part : ℕ) → list_any (λ p. p == part) parts ≡ list_any (goes_to sub part) ms

-- The span is the first of a set that ends beyond the bound. From the bound on, the set has its keys, none before it, and not the
-- key at its end.
pub record IsFirstSpan (set : List Interval) (from : ℕ) (s : Interval) : Type 0 where
  pub ends : from < s.hi
  pub inside : (k : ℕ) → s.lo ≤ k → k < s.hi → has set k ≡ true
  pub before : (k : ℕ) → from ≤ k → k < s.lo → has set k ≡ false
  pub after : has set s.hi ≡ false

-- that span, or that the set has no key from the bound on
abbrev pub IsFirst : List Interval → ℕ → Option Interval → Type 0
IsFirst set from None = (k : ℕ) → from ≤ k → has set k ≡ false
IsFirst set from (Some s) = IsFirstSpan set from s
