-- Parts of sets (this project).
use Rattle.std.specs.Prelude.{◌≡◌, ℕ, true, nat_lt, List, [], ◌∷◌, if◌then◌else◌}
use Rattle.squall_span.specs.Spans.{Interval, has}

-- the spans that begin below the bound, up to the first that does not
abbrev pub spans_before : ℕ → List Interval → List Interval
spans_before h [] = []
spans_before h (s ∷ ss) = if nat_lt s.lo h then s ∷ spans_before h ss else []

-- of the keys of a list, another one has those of the set
abbrev pub HasBeside : List Interval → List Interval → List Interval → Type 0
HasBeside own set list = (k : ℕ) → has own k ≡ true → has list k ≡ has set k
