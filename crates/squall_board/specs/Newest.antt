-- The newest course that a board tells of (this project: a later reconfiguration is issued under a greater number).
use Rattle.std.specs.Prelude.{ℕ, List, [], ◌∷◌, Option, None, Some}
use Rattle.squall_join.specs.declared.flat.Flat.{Flat}
use Rattle.squall_report.specs.Issues.{PlanPair}
pub use Rattle.squall_report.specs.Newest.{IsNewest, one_above, newest_by}
use Rattle.squall_board.specs.Boards.{BoardValue, issues_in}

abbrev pub or_before : Option (ℕ × PlanPair) → Option (ℕ × PlanPair) → Option (ℕ × PlanPair)
or_before None y = y
or_before (Some x) y = Some x

-- the last entry that has one pair of plans above the first number
abbrev pub newest_in : ℕ → List (ℕ × Flat PlanPair) → Option (ℕ × PlanPair)
newest_in low [] = None
newest_in low (e ∷ es) = or_before (newest_in low es) (one_above low e)

abbrev pub newest_of : BoardValue → ℕ → Option (ℕ × PlanPair)
newest_of b low = newest_in low (issues_in b)
