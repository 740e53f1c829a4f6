-- Tables with a patch that is made or left out (this project).
use Rattle.std.specs.Prelude.{List}
use Rattle.squall_plan.specs.declared.range.PlanRange.{PlanRange}
use Rattle.squall_plan.specs.Ranges.{IsCanonical, AreRanges}
use Rattle.squall_course.specs.Change.{Change}
use Rattle.squall_board.specs.Boards.{BoardValue, IsBoard, board_join}
use Rattle.squall_table.specs.declared.ready.Pending.{Pending}
use Rattle.squall_table.specs.declared.ready.Pending.TheVariants.{InBlock, Drafted}
use Rattle.squall_table.specs.LegEntries.{legs_from}
use Rattle.squall_table.specs.Tables.{IsTable}

-- the legs before a patch, and with it
pub record ReadyValue : Type 0 where
  pub before : List PlanRange
  pub after : List PlanRange

-- the legs without the edits
abbrev pub before : Pending → List PlanRange
before (InBlock p) = legs_from 0 p.0
before (Drafted d) = legs_from 0 d.0

-- the legs with the edits
abbrev pub after : Pending → List PlanRange
after (InBlock p) = legs_from 0 p.1
after (Drafted d) = legs_from 0 d.1

-- both are legs of all keys, of partitions that there can be
pub record AreLegLists (old new : List PlanRange) : Type 0 where
  pub old_canonical : IsCanonical old
  pub old_ranges : AreRanges old
  pub new_canonical : IsCanonical new
  pub new_ranges : AreRanges new

-- the new legs are the table of each board with the news, if the old ones are that of the board
abbrev pub Absorbs : Change → BoardValue → List PlanRange → List PlanRange → Type 0
Absorbs c news old new = (b : BoardValue) → IsBoard b → IsTable c b old → IsTable c (board_join b news) new
