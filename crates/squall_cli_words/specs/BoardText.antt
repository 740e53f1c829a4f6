-- What the line `board` shows of a board (this project's scenario language).
use Rattle.std.specs.Prelude.{ℕ, List, [], ◌++◌, length, Bool, true, false, ◌&&◌, ◌==◌, codes, if◌then◌else◌}
use Rattle.std.specs.List.{flat_map}
use Rattle.std.specs.Fmt.{decimal}
use Rattle.squall_span.specs.Spans.{Interval, text_of_span}
use Rattle.squall_join.specs.declared.flat.Flat.{Flat}
use Rattle.squall_join.specs.declared.flat.Flat.TheVariants.{Unknown, One, Clash}
use Rattle.squall_report.specs.Issues.{PlanPair}
use Rattle.squall_board.specs.declared.opening.Opening.{Opening}
use Rattle.squall_board.specs.Boards.{BoardValue}
use Rattle.squall_board.specs.Listed.{CellEntry, openings_of, issues_of, cells_of}

-- ---- openings

-- the line of an opening: its number, and how many sub-plans are opened
abbrev pub opening_line : Opening → List ℕ
opening_line o = codes "opened " ++ (decimal o.number ++ (codes " " ++ (decimal o.count ++ codes "\n")))

-- the lines of openings, one after another
abbrev pub opening_lines : List Opening → List ℕ
opening_lines os = flat_map opening_line os

-- ---- issues

-- the line of what is issued under a number: one pair of plans, or different ones; none if nothing is
abbrev pub line_of_issue : ℕ → Flat PlanPair → List ℕ
line_of_issue n Unknown = []
line_of_issue n (One pair) = codes "issue " ++ (decimal n ++ codes " one\n")
line_of_issue n Clash = codes "issue " ++ (decimal n ++ codes " clash\n")

abbrev pub issue_line : ℕ × Flat PlanPair → List ℕ
issue_line e = line_of_issue e.0 e.1

-- the lines of what is issued, one after another
abbrev pub issue_lines : List (ℕ × Flat PlanPair) → List ℕ
issue_lines es = flat_map issue_line es

-- ---- cells

-- whether the partition is done
abbrev pub text_of_complete : Bool → List ℕ
text_of_complete true = codes "done"
text_of_complete false = codes "open"

-- a span, with a blank before it
abbrev pub next_span : Interval → List ℕ
next_span s = codes " " ++ text_of_span s

abbrev pub next_spans : List Interval → List ℕ
next_spans ss = flat_map next_span ss

-- the line of a cell: its number, sub-plan and partition, whether the partition is done, and the keys loaded
abbrev pub cell_line : CellEntry → List ℕ
cell_line c =
    codes "cell " ++ (decimal c.cell.number ++ (codes " " ++ (decimal c.cell.sub ++ (codes " " ++ (decimal c.cell.part
    ++ (codes " " ++ (text_of_complete c.complete ++ (next_spans c.spans ++ codes "\n"))))))))

-- the lines of cells, one after another
abbrev pub cell_lines : List CellEntry → List ℕ
cell_lines cs = flat_map cell_line cs

-- ---- the board

abbrev pub text_of_lists : List Opening → List (ℕ × Flat PlanPair) → List CellEntry → List ℕ
text_of_lists os es cs =
    if (length os == 0) && ((length es == 0) && (length cs == 0)) then codes "empty\n"
    else opening_lines os ++ (issue_lines es ++ cell_lines cs)

-- what is opened, what is issued, and the cells, each by rising number; a board of no report is `empty`
abbrev pub board_text : BoardValue → List ℕ
board_text b = text_of_lists (openings_of b) (issues_of b) (cells_of b)
