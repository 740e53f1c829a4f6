-- Route tables: the legs of a route, by rising key (this project; ranges of keys and their partitions: Squall, SIGMOD 2015).
use Rattle.std.specs.Prelude.{◌≡◌, ℕ, zero, suc, ◌+◌, ◌-◌, ◌<◌, ◌≤◌, ◌==◌, List, [], ◌∷◌, if◌then◌else◌}
use Rattle.squall_key.specs.Keys.{top}
use Rattle.squall_span.specs.Spans.{interval}
use Rattle.squall_plan.specs.declared.range.PlanRange.{PlanRange}
use Rattle.squall_plan.specs.Ranges.{owner_of, IsTiling, Differ}
use Rattle.squall_course.specs.Change.{Change}
use Rattle.squall_board.specs.Boards.{BoardValue, says}
use Rattle.squall_board.specs.Route.{route}

-- the legs of a route from one bound to another, by rising key without hole. None is empty, and neighbours are of different
-- partitions. Each key is in a leg of the partition to which it is routed
pub record AreLegs (to_part : ℕ → ℕ) (lo hi : ℕ) (legs : List PlanRange) : Type 0 where
  pub tiles : IsTiling lo hi legs
  pub differ : Differ legs
  pub routes : (k : ℕ) → lo ≤ k → k < hi → owner_of legs k ≡ to_part k

-- the table of a course and a board: the legs of the board's route by that course, over all keys
abbrev pub IsTable : Change → BoardValue → List PlanRange → Type 0
IsTable c b legs = AreLegs (route c (says b)) 0 top legs

-- ---- key by key, slow and plain

-- the leg of two bounds
abbrev pub leg_of : ℕ → ℕ → ℕ → PlanRange
leg_of lo hi part = record { span = interval lo hi; part = part }

-- one key before legs: the first of them grows if it has the key's partition, and else the key is a leg of its own
abbrev pub key_before : ℕ → ℕ → List PlanRange → List PlanRange
key_before k part [] = leg_of k (k + 1) part ∷ []
key_before k part (l ∷ ls) = if l.part == part then leg_of k l.span.hi part ∷ ls else leg_of k (k + 1) part ∷ l ∷ ls

-- the legs of that many keys from a bound on
unfoldable pub legs_of : (ℕ → ℕ) → ℕ → ℕ → List PlanRange
legs_of to_part lo zero = []
legs_of to_part lo (suc n) = key_before lo (to_part lo) (legs_of to_part (lo + 1) n)

-- the legs from one bound to another
abbrev pub legs_between : (ℕ → ℕ) → ℕ → ℕ → List PlanRange
legs_between to_part lo hi = legs_of to_part lo (hi - lo)
