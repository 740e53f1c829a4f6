-- What a board is cut into, to be sent in pieces (this project's form).
use Rattle.std.specs.Prelude.{ℕ, Bool, true, false, List, [], ◌∷◌, ◌++◌, map, if◌then◌else◌}
use Rattle.std.specs.List.{flat_map}
use Rattle.squall_span.specs.Spans.{Interval}
use Rattle.squall_join.specs.declared.flat.Flat.{Flat}
use Rattle.squall_join.specs.Pairs.{pair_of}
use Rattle.squall_report.specs.Issues.{PlanPair}
use Rattle.squall_report.specs.Cells.{CellPlace}
use Rattle.squall_board.specs.declared.opening.Opening.{Opening}
use Rattle.squall_board.specs.Boards.{BoardValue, empty_board, board_join, opening_board, issue_board, cell_board}
use Rattle.squall_board.specs.Listed.{CellEntry, openings_of, issues_of, cells_of}

-- what is never cut: how many sub-plans are opened, what is issued, that a partition is done, and one span loaded
pub data Item : Type 0 where
  opening : Opening → Item
  issue : ℕ × Flat PlanPair → Item
  done : CellPlace → Item
  loaded : CellPlace → Interval → Item

-- that a cell is done, if it is
abbrev pub flag_items : CellPlace → Bool → List Item
flag_items c complete = if complete then done c ∷ [] else []

-- that it is done, if it is, then each of its spans
abbrev pub items_of_cell : CellEntry → List Item
items_of_cell c = flag_items c.cell c.complete ++ map (loaded c.cell) c.spans

-- the items of a board, in the order of its delta: each opening, each issue, and those of each cell
abbrev pub items_of : BoardValue → List Item
items_of b = map opening (openings_of b) ++ (map issue (issues_of b) ++ flat_map items_of_cell (cells_of b))

-- the board of one item
abbrev pub item_board : Item → BoardValue
item_board (opening o) = opening_board o.number o.count
item_board (issue e) = issue_board e.0 e.1
item_board (done c) = cell_board c (pair_of [] true)
item_board (loaded c s) = cell_board c (pair_of (s ∷ []) false)

-- the board with each of the items joined in
abbrev pub with_items : BoardValue → List Item → BoardValue
with_items b [] = b
with_items b (i ∷ is) = with_items (board_join b (item_board i)) is

-- the board of items
abbrev pub items_board : List Item → BoardValue
items_board is = with_items empty_board is
