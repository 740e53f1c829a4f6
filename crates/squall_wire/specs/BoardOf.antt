-- The board of the lists that a delta says: the join of the boards of one entry each (this project).
use Rattle.std.specs.Prelude.{ℕ, List, [], ◌∷◌}
use Rattle.squall_join.specs.declared.flat.Flat.{Flat}
use Rattle.squall_report.specs.Issues.{PlanPair}
use Rattle.squall_board.specs.declared.opening.Opening.{Opening}
use Rattle.squall_board.specs.Boards.{BoardValue, empty_board, board_join, opening_board, issue_board, cell_board}
use Rattle.squall_board.specs.Listed.{CellEntry, entry_value}
use Rattle.squall_wire.specs.Messages.{BoardLists}

-- the board with each of the openings joined in
abbrev pub with_openings : BoardValue → List Opening → BoardValue
with_openings b [] = b
with_openings b (o ∷ os) = with_openings (board_join b (opening_board o.number o.count)) os

abbrev pub with_issues : BoardValue → List (ℕ × Flat PlanPair) → BoardValue
with_issues b [] = b
with_issues b (e ∷ es) = with_issues (board_join b (issue_board e.0 e.1)) es

abbrev pub with_cells : BoardValue → List CellEntry → BoardValue
with_cells b [] = b
with_cells b (c ∷ cs) = with_cells (board_join b (cell_board c.cell (entry_value c))) cs

-- the board of lists
abbrev pub board_of_lists : BoardLists → BoardValue
board_of_lists d = with_cells (with_issues (with_openings empty_board d.openings) d.issues) d.cells
