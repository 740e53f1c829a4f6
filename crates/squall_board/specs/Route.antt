-- Which partition to ask for a key while data moves (this project's rule; Squall, SIGMOD 2015, may send it earlier). A key goes
-- to its new partition only after its load there, or that partition's completion, was reported.
use Rattle.std.specs.Prelude.{ℕ, not, ◌||◌, Bool, if◌then◌else◌}
use Rattle.squall_plan.specs.Ranges.{owner_of}
use Rattle.squall_course.specs.Change.{Change}
use Rattle.squall_course.specs.Subplans.{moves, sub_of}
use Rattle.squall_report.specs.Cells.{CellPlace, place_at}
use Rattle.squall_report.specs.Facts.{Fact, LoadedKey, DonePart}

-- the cell of a key: its new partition, in its own sub-plan, under the course's number
abbrev pub place_of_key : Change → ℕ → CellPlace
place_of_key c k = place_at c.number (sub_of c.old c.new k) (owner_of c.new k)

-- its load in its cell is said, or that cell's completion
abbrev pub has_come : Change → (Fact → Bool) → ℕ → Bool
has_come c says k = says (LoadedKey (place_of_key c k) k) || says (DonePart (place_of_key c k))

-- the new owner of a key that does not move or has come, and else its old owner
abbrev pub route : Change → (Fact → Bool) → ℕ → ℕ
route c says k = if not (moves c.old c.new k) || has_come c says k then owner_of c.new k else owner_of c.old k
