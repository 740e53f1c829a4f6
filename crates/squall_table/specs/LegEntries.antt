-- Legs as entries by rising end, each of which begins where the one before ends (this project).
use Rattle.std.specs.Prelude.{ℕ, nat_lt, List, [], ◌∷◌, if◌then◌else◌}
use Rattle.squall_plan.specs.declared.range.PlanRange.{PlanRange}
use Rattle.squall_table.specs.Tables.{leg_of}

-- the legs of entries, the first from a bound on
abbrev pub legs_from : ℕ → List (ℕ × ℕ) → List PlanRange
legs_from lo [] = []
legs_from lo (e ∷ es) = leg_of lo e.0 e.1 ∷ legs_from e.0 es

-- the entries of legs
abbrev pub entries_of : List PlanRange → List (ℕ × ℕ)
entries_of [] = []
entries_of (l ∷ ls) = (l.span.hi, l.part) ∷ entries_of ls

-- the legs from the first on that ends beyond the key
abbrev pub legs_beyond : ℕ → List PlanRange → List PlanRange
legs_beyond k [] = []
legs_beyond k (l ∷ ls) = if nat_lt k l.span.hi then l ∷ ls else legs_beyond k ls
