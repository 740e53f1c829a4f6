-- What a row of bars is, and how much of a band is filled (this project's picture).
use Rattle.std.specs.Prelude.{◌≡◌, ℕ, ◌+◌, List, [], ◌∷◌}
use Rattle.squall_plan.specs.declared.range.PlanRange.{PlanRange}
use Rattle.squall_picture.specs.Scale.{x_of, width_of}

-- the bars of the ranges lie side by side between two places: each begins at the end of the one before it
abbrev pub AreSideBySide : List ℕ → ℕ → ℕ → List PlanRange → Type 0
AreSideBySide ts from to [] = from ≡ to
AreSideBySide ts from to (r ∷ rs) = (x_of ts r.span.lo ≡ from) × AreSideBySide ts (from + width_of ts r.span) to rs
