-- Routers: a first course, and a board of what was heard since (this project).
use Rattle.std.specs.Prelude.{◌≡◌, ℕ, List, Option, IfSome}
use Rattle.squall_plan.specs.declared.range.PlanRange.{PlanRange}
use Rattle.squall_course.specs.Change.{Change}
use Rattle.squall_board.specs.Boards.{BoardValue}
use Rattle.squall_board.specs.CourseRoute.{course_of_board, route_by_newest}
use Rattle.squall_table.specs.Tables.{IsTable}
use Rattle.squall_status.specs.declared.tally.Tally.{Tally}
use Rattle.squall_status.specs.Tallies.{tally_of, IsWithin}

-- the course that a router was made with, and what it has heard
pub record RouterValue : Type 0 where
  pub first : Change
  pub board : BoardValue

abbrev pub router_with : Change → BoardValue → RouterValue
router_with first board = record { first = first; board = board }

-- the course that it uses: the newest that it has heard of, or the first
abbrev pub course_of_router : RouterValue → Change
course_of_router r = course_of_board r.first r.board

-- where it sends a key: the route of its board by that course
abbrev pub route_of_router : RouterValue → ℕ → ℕ
route_of_router r k = route_by_newest r.first r.board k

-- its table: that of its course and its board
abbrev pub IsTableOf : RouterValue → List PlanRange → Type 0
IsTableOf r legs = IsTable (course_of_router r) r.board legs

-- what a router keeps: its newest course, the table of that course and its board, and maybe numbers that are at least those of its board
pub record InStep (r : RouterValue) (course : Change) (legs : List PlanRange) (bound : Option Tally) : Type 0 where
  pub newest : course ≡ course_of_router r
  pub table : IsTableOf r legs
  pub within : IfSome bound (λ t. IsWithin (tally_of r.board) t)
