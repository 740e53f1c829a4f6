-- Moving keys and their sub-plans, from an old and a new plan (moving between two plans: Squall, SIGMOD 2015; that a source
-- has at most one destination in a sub-plan is this project's rule).
use Rattle.std.specs.Prelude.{◌≡◌, ℕ, ◌<◌, ◌==◌, ◌&&◌, not, true, nat_lt, min, max, Bool, List, [], ◌∷◌, filter, length, Option, Some, None, if◌then◌else◌}
use Rattle.std.specs.List.{list_any, range_with_len, position_or_len, slice_get, Contains}
use Rattle.squall_key.specs.Keys.{top, part_limit}
use Rattle.squall_span.specs.Spans.{Interval}
use Rattle.squall_plan.specs.declared.range.PlanRange.{PlanRange}
use Rattle.squall_plan.specs.Ranges.{owner_of}

-- the key moves: its owners differ
abbrev pub moves : List PlanRange → List PlanRange → ℕ → Bool
moves old new k = not (owner_of old k == owner_of new k)

-- some key goes from the source to the destination
abbrev pub IsFed : List PlanRange → List PlanRange → ℕ → ℕ → Type 0
IsFed old new source dest = (k : ℕ) × (k < top) × (owner_of old k ≡ source) × (owner_of new k ≡ dest)

-- the spans share a key
abbrev pub shares : Interval → Interval → Bool
shares a b = nat_lt (max a.lo b.lo) (min a.hi b.hi)

-- a range of the source shares a key with a range of the destination: for plans the same as `IsFed`
abbrev pub feeds : List PlanRange → List PlanRange → ℕ → ℕ → Bool
feeds old new source dest = list_any (λ r. (r.part == source) && list_any (λ s. (s.part == dest) && shares r.span s.span) new) old

-- another partition to which keys of the source go
abbrev pub is_dest : List PlanRange → List PlanRange → ℕ → ℕ → Bool
is_dest old new source dest = not (dest == source) && feeds old new source dest

-- the destinations of a source, in rising number
unfoldable pub dests : List PlanRange → List PlanRange → ℕ → List ℕ
dests old new source = filter (λ dest. is_dest old new source dest) (range_with_len 0 part_limit)

-- the sub-plan in which a source feeds a destination: its place among those of the source, from 0
abbrev pub sub_at : List PlanRange → List PlanRange → ℕ → ℕ → ℕ
sub_at old new source dest = position_or_len (λ d. d == dest) (dests old new source)

-- the sub-plan of a moving key
abbrev pub sub_of : List PlanRange → List PlanRange → ℕ → ℕ
sub_of old new k = sub_at old new (owner_of old k) (owner_of new k)

abbrev pub subplan_of : List PlanRange → List PlanRange → ℕ → Option ℕ
subplan_of old new k = if moves old new k then Some (sub_of old new k) else None

-- the destination of a source in a sub-plan
abbrev pub dest_of : List PlanRange → List PlanRange → ℕ → ℕ → Option ℕ
dest_of old new sub source = slice_get (dests old new source) sub

-- the greatest number of destinations of a partition of the ranges
abbrev pub most_dests : List PlanRange → List PlanRange → List PlanRange → ℕ
most_dests old new [] = 0
most_dests old new (r ∷ rs) = max (length (dests old new r.part)) (most_dests old new rs)

-- how many sub-plans there are: the greatest number of destinations of a source
abbrev pub subplan_count : List PlanRange → List PlanRange → ℕ
subplan_count old new = most_dests old new old

-- by these numbers of keys the moving keys of one source with one number have one destination
abbrev pub IsSingle : List PlanRange → List PlanRange → (ℕ → ℕ) → Type 0
IsSingle old new number = (j k : ℕ) → j < top → k < top → moves old new j ≡ true → moves old new k ≡ true → owner_of old j ≡ owner_of old k → number j ≡ number k → owner_of new j ≡ owner_of new k

-- A way to number the moving keys: those of one source with one number have one destination. Each number that a moving key has is
-- in the list.
pub record IsSplit (old new : List PlanRange) (number : ℕ → ℕ) (used : List ℕ) : Type 0 where
  pub listed : (k : ℕ) → k < top → moves old new k ≡ true → Contains used (number k)
  pub single : IsSingle old new number
