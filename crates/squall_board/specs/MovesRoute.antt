-- Which partition to ask for a key, by the moves of a course (this project): tables are built of moves.
use Rattle.std.specs.Prelude.{ℕ, Bool, false, ◌||◌, List, [], ◌∷◌, Option, None, Some, if◌then◌else◌}
use Rattle.squall_span.specs.Spans.{has}
use Rattle.squall_plan.specs.declared.range.PlanRange.{PlanRange}
use Rattle.squall_plan.specs.Ranges.{owner_of}
use Rattle.squall_course.specs.declared.moving.Move.{Move}
use Rattle.squall_course.specs.Moves.{move_has}
use Rattle.squall_report.specs.Cells.{CellPlace, place_at}
use Rattle.squall_report.specs.Facts.{Fact, LoadedKey, DonePart}
use Rattle.squall_board.specs.Boards.{CellValue}

-- the cell to which a move of the course of that number brings its keys
abbrev pub cell_to : ℕ → Move → CellPlace
cell_to number m = place_at number m.sub m.dest

-- the key's load at the cell is said, or the cell's completion
abbrev pub has_come_to : (Fact → Bool) → CellPlace → ℕ → Bool
has_come_to says cell k = says (LoadedKey cell k) || says (DonePart cell)

-- the partition of a key of the move: its destination once the key has come there, and else its source
abbrev pub route_in_move : ℕ → (Fact → Bool) → Move → ℕ → ℕ
route_in_move number says m k = if has_come_to says (cell_to number m) k then m.dest else m.source

-- the partition of a key by the first move that has it, and its owner in the old plan if none has it
abbrev pub route_by_moves : ℕ → List PlanRange → List Move → (Fact → Bool) → ℕ → ℕ
route_by_moves number old [] says k = owner_of old k
route_by_moves number old (m ∷ ms) says k = if move_has k m then route_in_move number says m k else route_by_moves number old ms says k

-- the same by what a board has of the cell
abbrev pub cell_has_come : Option CellValue → ℕ → Bool
cell_has_come None k = false
cell_has_come (Some cell) k = has cell.first k || cell.second
