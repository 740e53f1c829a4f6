-- What a board becomes when it takes what another one tells (this project).
use Rattle.std.specs.Prelude.{◌≡◌, ℕ, List, [], ◌∷◌, ◌++◌}
use Rattle.squall_report.specs.declared.report.ReportKind.{ReportKind}
use Rattle.squall_report.specs.Issues.{PlanPair}
use Rattle.squall_join.specs.declared.flat.Flat.{Flat}
use Rattle.squall_report.specs.Cells.{CellPlace}
use Rattle.squall_report.specs.Told.{Told, told_by_report, told_by, SameTold, TellsBoth}
use Rattle.squall_board.specs.Boards.{CellValue, BoardValue, HasTaken, board_join, empty_board, cell_board, opening_board, issue_board, report_board, told, told_by_cell, told_by_count, told_by_issue}

-- the old board takes another one, which tells these facts: the new board is their join, and it tells what both told and nothing else. If the
-- old one had taken a list of reports, the new one has taken that list and any other one that tells these facts
pub record Takes (old other : BoardValue) (facts : Told) (new : BoardValue) : Type 0 where
  pub joined : new ≡ board_join old other
  pub tells : TellsBoth (told new) (told old) facts
  pub taken : (rs qs : List (ReportKind PlanPair)) → HasTaken old rs → SameTold facts (told_by qs) → HasTaken new (rs ++ qs)

-- a board after it took each report of a list, one after the other
abbrev pub taking : BoardValue → List (ReportKind PlanPair) → BoardValue
taking b [] = b
taking b (r ∷ rs) = taking (board_join b (report_board r)) rs

-- the board of a list of reports
abbrev pub board_by : List (ReportKind PlanPair) → BoardValue
board_by rs = taking empty_board rs

-- the board takes a report
abbrev pub TakesReport : BoardValue → ReportKind PlanPair → BoardValue → Type 0
TakesReport old r new = Takes old (report_board r) (told_by_report r) new

-- the board takes each report of the list
abbrev pub TakesReports : BoardValue → List (ReportKind PlanPair) → BoardValue → Type 0
TakesReports old rs new = Takes old (board_by rs) (told_by rs) new

-- the board takes all that another one tells
abbrev pub TakesBoard : BoardValue → BoardValue → BoardValue → Type 0
TakesBoard old other new = Takes old other (told other) new

-- the board takes what a cell says of its partition
abbrev pub TakesCell : BoardValue → CellPlace → CellValue → BoardValue → Type 0
TakesCell old place cell new = Takes old (cell_board place cell) (told_by_cell place cell) new

-- the board takes that the sub-plans of a number below a count are opened
abbrev pub TakesCount : BoardValue → ℕ → ℕ → BoardValue → Type 0
TakesCount old number count new = Takes old (opening_board number count) (told_by_count number count) new

-- the board takes what is issued under a number
abbrev pub TakesIssue : BoardValue → ℕ → Flat PlanPair → BoardValue → Type 0
TakesIssue old number issue new = Takes old (issue_board number issue) (told_by_issue number issue) new
