-- One pass over two sets (this project).
use Rattle.std.specs.Prelude.{◌≤◌, ℕ, max, List, [], ◌∷◌}
use Rattle.squall_span.specs.Spans.{Interval, interval}

-- the spans, the first of them cut to its keys from the bound on
abbrev pub cut_first : ℕ → List Interval → List Interval
cut_first from [] = []
cut_first from (s ∷ ss) = interval (max from s.lo) s.hi ∷ ss

-- no span of the list starts before s
abbrev pub StartsNoEarlier : Interval → List Interval → Type 0
StartsNoEarlier s [] = Unit {0}
StartsNoEarlier s (t ∷ ts) = s.lo ≤ t.lo
