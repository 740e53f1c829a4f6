-- Spans as entries by rising end (this project).
use Rattle.std.specs.Prelude.{ℕ, ◌-◌, min, nat_le, List, [], ◌∷◌, Option, None, Some, if◌then◌else◌}
use Rattle.squall_span.specs.Spans.{Interval, interval, span_at}

-- the spans of entries: each ends where its entry does, and begins at the value
abbrev pub spans_of : List (ℕ × ℕ) → List Interval
spans_of [] = []
spans_of (e ∷ es) = interval e.1 e.0 ∷ spans_of es

-- the entries of spans
abbrev pub entries_of : List Interval → List (ℕ × ℕ)
entries_of [] = []
entries_of (s ∷ ss) = (s.hi, s.lo) ∷ entries_of ss

-- where a span begins together with the first of those that do not end before it
abbrev pub start_with : Interval → Option (ℕ × ℕ) → ℕ
start_with s None = s.lo
start_with s (Some e) = min e.1 s.lo

-- where a span ends together with the first of those that end beyond it, if it overlaps or touches that one
abbrev pub end_with : Interval → Option (ℕ × ℕ) → ℕ
end_with s None = s.hi
end_with s (Some e) = if nat_le e.1 s.hi then e.0 else s.hi

-- what is left below a bound of the first span that ends beyond it
abbrev pub head_below : ℕ → Option (ℕ × ℕ) → Option Interval
head_below bound None = None
head_below bound (Some e) = span_at e.1 bound

-- what is left from a bound on of the first span that ends beyond it, if a part of that one goes
abbrev pub tail_from : ℕ → Option (ℕ × ℕ) → Option Interval
tail_from bound None = None
tail_from bound (Some e) = if nat_le bound e.1 then None else span_at bound e.0

-- the spans that end by this bound are those that end by another, without the one that is cut there, if one is
abbrev pub cut_start : ℕ → Option Interval → ℕ
cut_start bound None = bound
cut_start bound (Some head) = bound - 1

-- the end of what is cut at a bound: that of the span of which a part is left, if there is one
abbrev pub cut_end : ℕ → Option Interval → ℕ
cut_end bound None = bound
cut_end bound (Some tail) = tail.hi
