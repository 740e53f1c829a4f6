-- To which partition a first course, and what was told since, send a key (this project: the newest course that is known decides).
use Rattle.std.specs.Prelude.{◌≡◌, ℕ, List, Option, None, Some}
use Rattle.squall_course.specs.Change.{Change}
use Rattle.squall_report.specs.declared.report.ReportKind.{ReportKind}
use Rattle.squall_report.specs.Issues.{PlanPair}
use Rattle.squall_report.specs.Facts.{reports_say}
use Rattle.squall_report.specs.Newest.{IsNewest, newest_by}
use Rattle.squall_report.specs.Queries.{Queries, queries_say}
use Rattle.squall_board.specs.Boards.{BoardValue, says}
use Rattle.squall_board.specs.Newest.{newest_of}
use Rattle.squall_board.specs.Route.{route}

-- the newest course after the first, if there is one, and else the first
abbrev pub course_by : Change → Option (ℕ × PlanPair) → Change
course_by first None = first
course_by first (Some e) = record { number = e.0; old = e.1.old; new = e.1.new }

-- the course of a board: its newest after the first, or the first
abbrev pub course_of_board : Change → BoardValue → Change
course_of_board first b = course_by first (newest_of b first.number)

-- the course of a list of reports
abbrev pub course_of_reports : Change → List (ReportKind PlanPair) → Change
course_of_reports first rs = course_by first (newest_by rs first.number)

-- by queries that is the course: the newest after the first, or the first if there is none
abbrev pub IsCourseBy : Change → Queries → Change → Type 0
IsCourseBy first t c = (newest : Option (ℕ × PlanPair)) × IsNewest t.issued first.number newest × (c ≡ course_by first newest)

-- the route of a board by its course
abbrev pub route_by_newest : Change → BoardValue → ℕ → ℕ
route_by_newest first b k = route (course_of_board first b) (says b) k

-- the route of a list of reports by its course
abbrev pub route_by_reports : Change → List (ReportKind PlanPair) → ℕ → ℕ
route_by_reports first rs k = route (course_of_reports first rs) (reports_say rs) k

-- by queries the key goes to that partition: it is the route of their course
abbrev pub IsRoutedBy : Change → Queries → ℕ → ℕ → Type 0
IsRoutedBy first t k part = (c : Change) × IsCourseBy first t c × (part ≡ route c (queries_say t) k)
