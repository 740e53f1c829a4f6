-- Which legs the line `legs` shows (this project's scenario language).
use Rattle.std.specs.Prelude.{List}
use Rattle.squall_span.specs.Spans.{Interval}
use Rattle.squall_plan.specs.declared.range.PlanRange.{PlanRange}
use Rattle.squall_course.specs.Change.{Change}
use Rattle.squall_board.specs.Boards.{BoardValue}
use Rattle.squall_board.specs.CourseRoute.{route_by_newest}
use Rattle.squall_table.specs.Tables.{legs_between}

-- the legs of a span: its keys by rising key, each routed as the line `route` routes it, neighbours of one partition joined
abbrev pub legs_of_span : Change → BoardValue → Interval → List PlanRange
legs_of_span first b span = legs_between (route_by_newest first b) span.lo span.hi
