-- The keys that a delta touches, and those whose route it changes (this project).
use Rattle.std.specs.Prelude.{◌≡◌, ℕ, ◌<◌, ◌&&◌, ◌||◌, Bool, false, List}
use Rattle.squall_key.specs.Keys.{top}
use Rattle.squall_span.specs.Spans.{Interval, has}
use Rattle.squall_plan.specs.declared.range.PlanRange.{PlanRange}
use Rattle.squall_course.specs.Change.{Change}
use Rattle.squall_course.specs.Subplans.{moves}
use Rattle.squall_course.specs.Moves.{is_incoming}
use Rattle.squall_report.specs.Cells.{place_at}
use Rattle.squall_report.specs.Facts.{Fact, LoadedKey, DonePart}
use Rattle.squall_board.specs.Boards.{BoardValue, says}
use Rattle.squall_board.specs.Route.{has_come, route}
use Rattle.squall_table.specs.Tables.{IsTable}

-- the key moves, and it is said that it was loaded in its own cell, or that this cell is complete
abbrev pub is_touched : Change → (Fact → Bool) → ℕ → Bool
is_touched c says k = moves c.old c.new k && has_come c says k

-- the cell of that sub-plan and partition touches the key: the key is incoming there, and was loaded or the cell is complete
abbrev pub cell_touches : Change → (Fact → Bool) → ℕ → ℕ → ℕ → Bool
cell_touches c says sub part k = is_incoming c.old c.new sub part k && (says (LoadedKey (place_at c.number sub part) k) || says (DonePart (place_at c.number sub part)))

-- by the course the routes of two boards differ at most in the set
abbrev pub ChangesWithin : Change → BoardValue → BoardValue → List Interval → Type 0
ChangesWithin c a b set = (k : ℕ) → k < top → has set k ≡ false → route c (says a) k ≡ route c (says b) k

-- the table is that of an older board, whose routes differ from those of the board at most in the set
abbrev pub WasTable : Change → BoardValue → List Interval → List PlanRange → Type 0
WasTable c b set legs = (older : BoardValue) × IsTable c older legs × ChangesWithin c older b set
