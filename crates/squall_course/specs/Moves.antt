-- The moves between two plans (moving between two plans: Squall, SIGMOD 2015; their numbers are this project's rule).
use Rattle.std.specs.Prelude.{◌≡◌, ◌≢◌, ℕ, ◌<◌, ◌≤◌, ◌==◌, ◌&&◌, not, min, max, true, Bool, List, [], ◌∷◌, map, filter, Option, Some, None, if◌then◌else◌}
use Rattle.std.specs.List.{flat_map, AllByRecursion, list_any, range_with_len}
use Rattle.squall_key.specs.Keys.{top, part_limit}
use Rattle.squall_span.specs.Spans.{Interval, span_has}
use Rattle.squall_plan.specs.declared.range.PlanRange.{PlanRange}
use Rattle.squall_plan.specs.Ranges.{owner_of}
use Rattle.squall_course.specs.declared.transfer.Transfer.{Transfer}
use Rattle.squall_course.specs.declared.moving.Move.{Move}
use Rattle.squall_course.specs.Subplans.{moves, shares, sub_at, sub_of}

-- ---- the list of moves, as a function

-- the keys that two spans share
abbrev pub overlap : Interval → Interval → Interval
overlap a b = record { lo = max a.lo b.lo; hi = min a.hi b.hi }

-- what goes from a range of the old plan to one of the new: the keys that they share, if their partitions differ
abbrev pub transfer : PlanRange → PlanRange → Option Transfer
transfer r s = if shares r.span s.span && not (r.part == s.part) then Some (record { span = overlap r.span s.span; source = r.part; dest = s.part }) else None

abbrev pub listed : Option Transfer → List Transfer
listed None = []
listed (Some p) = p ∷ []

-- what leaves a range, by rising key
abbrev pub row : PlanRange → List PlanRange → List Transfer
row r ss = flat_map (λ s. listed (transfer r s)) ss

-- what leaves ranges, by rising key
abbrev pub transfers : List PlanRange → List PlanRange → List Transfer
transfers rs ss = flat_map (λ r. row r ss) rs

-- with its sub-plan
abbrev pub numbered : List PlanRange → List PlanRange → Transfer → Move
numbered old new p = record { span = p.span; source = p.source; dest = p.dest; sub = sub_at old new p.source p.dest }

-- the moves between two plans: what each range of the old one shares with each of the new
unfoldable pub moves_of : List PlanRange → List PlanRange → List Move
moves_of old new = map (numbered old new) (transfers old new)

-- ---- the keys of a partition in a sub-plan

-- the key moves to the partition in the sub-plan
abbrev pub is_incoming : List PlanRange → List PlanRange → ℕ → ℕ → ℕ → Bool
is_incoming old new sub part k = moves old new k && ((sub_of old new k == sub) && (owner_of new k == part))

-- the key moves away from the partition in the sub-plan
abbrev pub is_outgoing : List PlanRange → List PlanRange → ℕ → ℕ → ℕ → Bool
is_outgoing old new sub part k = moves old new k && ((sub_of old new k == sub) && (owner_of old k == part))

-- the move goes to the partition in the sub-plan
abbrev pub goes_to : ℕ → ℕ → Move → Bool
goes_to sub part m = (m.sub == sub) && (m.dest == part)

-- the partitions to which moves go in the sub-plan, in rising number
unfoldable pub receivers_of : List Move → ℕ → List ℕ
receivers_of ms sub = filter (λ part. list_any (goes_to sub part) ms) (range_with_len 0 part_limit)

-- ---- what it is for a list to be those moves

-- the key lies in the move
abbrev pub move_has : ℕ → Move → Bool
move_has k m = span_has m.span k

-- the key lies in one of the moves
abbrev pub in_moves : ℕ → List Move → Bool
in_moves k ms = list_any (move_has k) ms

-- each key of the move goes from its source to its dest, which differ, in its sub-plan
pub record IsMove (old new : List PlanRange) (m : Move) : Type 0 where
  pub full : m.span.lo < m.span.hi
  pub high : m.span.hi ≤ top
  pub other : m.source ≢ m.dest
  pub sub : m.sub ≡ sub_at old new m.source m.dest
  pub source : (k : ℕ) → move_has k m ≡ true → owner_of old k ≡ m.source
  pub dest : (k : ℕ) → move_has k m ≡ true → owner_of new k ≡ m.dest

-- the moves rise from a bound on, and none shares a key with another
abbrev pub Rise : ℕ → List Move → Type 0
Rise from [] = Unit {0}
Rise from (m ∷ ms) = (from ≤ m.span.lo) × Rise m.span.hi ms

-- no move could be longer: if the next begins at its end, that one has another source or another dest
abbrev pub LongestFrom : Move → List Move → Type 0
LongestFrom m [] = Unit {0}
LongestFrom m (n ∷ ns) = (m.span.hi ≡ n.span.lo → m.source ≡ n.source → m.dest ≢ n.dest) × LongestFrom n ns

abbrev pub AreLongest : List Move → Type 0
AreLongest [] = Unit {0}
AreLongest (m ∷ ms) = LongestFrom m ms

-- The moves between two plans. A key lies in one exactly if it moves, and in one at most, with its owners and its sub-plan. They
-- are by rising key, and as long as can be.
pub record AreMoves (old new : List PlanRange) (ms : List Move) : Type 0 where
  pub each : AllByRecursion (IsMove old new) ms
  pub all : (k : ℕ) → in_moves k ms ≡ moves old new k
  pub rise : Rise 0 ms
  pub longest : AreLongest ms
