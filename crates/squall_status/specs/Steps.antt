-- What private functions find on the way to a status (this project). No public contract cites these definitions.
use Rattle.std.specs.Prelude.{◌≡◌, ℕ, ◌+◌, ◌-◌, ◌≤◌, ◌==◌, min, max, nat_lt, nat_le, List, [], ◌∷◌, Option, None, Some, if◌then◌else◌}
use Rattle.squall_span.specs.Spans.{Interval, has, span_at, IsCanonical, EndsBeyond}

-- how many keys of the span lie in the spans, up to the first that shares none with it
abbrev pub shared_count : Interval → List Interval → ℕ
shared_count span [] = 0
shared_count span (s ∷ ss) = if nat_lt (max s.lo span.lo) (min s.hi span.hi) then (min s.hi span.hi - max s.lo span.lo) + shared_count span ss else 0

-- the bound at which the first span begins, but at most the given one
abbrev pub start_upto : ℕ → List Interval → ℕ
start_upto bound [] = bound
start_upto bound (s ∷ ss) = min s.lo bound

-- spans in order that end beyond the bound, and have the keys of the set from there on
pub record AreBeyond (set : List Interval) (bound : ℕ) (ss : List Interval) : Type 0 where
  pub canonical : IsCanonical ss
  pub ends : EndsBeyond bound ss
  pub same : (k : ℕ) → bound ≤ k → has ss k ≡ has set k

-- the first run of keys of the span that the spans lack
abbrev pub missing_in : Interval → List Interval → Option Interval
missing_in span [] = Some span
missing_in span (s ∷ ss) = if nat_le s.lo span.lo then span_at s.hi (start_upto span.hi ss) else span_at span.lo (min s.lo span.hi)

-- the last one opened of the sub-plans, if that many are opened
abbrev pub open_of : ℕ → ℕ → Option ℕ
open_of opened subplans = if min opened subplans == 0 then None else Some (min opened subplans - 1)
