-- Laws of the route by a first course.
use Rattle.std.specs.Prelude.{◌≡◌, ℕ, List, refl}
use Rattle.std.proofs.Common.{sym, ap, ◌∙◌}
use Rattle.squall_course.specs.Change.{Change}
use Rattle.squall_report.specs.declared.report.ReportKind.{ReportKind}
use Rattle.squall_report.specs.Issues.{PlanPair}
use Rattle.squall_report.specs.Newest.{newest_by}
use Rattle.squall_report.specs.NewestLaws.{one_newest, newest_of_reports}
use Rattle.squall_report.specs.Queries.{Queries, queries_by, queries_say}
use Rattle.squall_board.specs.Boards.{BoardValue, IsBoard, HasTaken}
use Rattle.squall_board.specs.Newest.{newest_of}
use Rattle.squall_board.specs.NewestLaws.{newest_is_greatest}
use Rattle.squall_board.specs.BoardQueries.{queries_of}
use Rattle.squall_board.specs.BoardQueriesLaws.{taken_newest}
use Rattle.squall_board.specs.Route.{route}
use Rattle.squall_board.specs.CourseRoute.{course_by, course_of_board, course_of_reports, IsCourseBy, route_by_newest, route_by_reports, IsRoutedBy}

-- queries have one course at most
pub one_course : (first : Change) (t : Queries) (c d : Change) → IsCourseBy first t c → IsCourseBy first t d → c ≡ d
one_course first t c d (x, newest_x, is_x) (y, newest_y, is_y) = is_x ∙ ap (course_by first) (one_newest t.issued first.number x y newest_x newest_y) ∙ sym is_y

pub board_course : (first : Change) (b : BoardValue) → IsBoard b → IsCourseBy first (queries_of b) (course_of_board first b)
board_course first b is = (newest_of b first.number, newest_is_greatest b first.number is, refl)

pub reports_course : (first : Change) (rs : List (ReportKind PlanPair)) → IsCourseBy first (queries_by rs) (course_of_reports first rs)
reports_course first rs = (newest_by rs first.number, newest_of_reports rs first.number, refl)

-- what a board has taken decides its course
pub taken_course : (first : Change) (b : BoardValue) (rs : List (ReportKind PlanPair)) → IsBoard b → HasTaken b rs → course_of_board first b ≡ course_of_reports first rs
taken_course first b rs is taken = ap (course_by first) (taken_newest b rs first.number is taken)

-- ---- routes

-- by queries a key goes to one partition at most
pub one_route : (first : Change) (t : Queries) (k p q : ℕ) → IsRoutedBy first t k p → IsRoutedBy first t k q → p ≡ q
one_route first t k p q (c, course_c, is_c) (d, course_d, is_d) = is_c ∙ ap (λ x. route x (queries_say t) k) (one_course first t c d course_c course_d) ∙ sym is_d

-- the route of a course needs what is said of loads and completions alone
pub board_routes : (first : Change) (b : BoardValue) (k : ℕ) → IsBoard b → IsRoutedBy first (queries_of b) k (route_by_newest first b k)
board_routes first b k is = (course_of_board first b, board_course first b is, refl)

pub reports_route : (first : Change) (rs : List (ReportKind PlanPair)) (k : ℕ) → IsRoutedBy first (queries_by rs) k (route_by_reports first rs k)
reports_route first rs k = (course_of_reports first rs, reports_course first rs, refl)

-- what a board has taken decides its route
pub taken_route : (first : Change) (b : BoardValue) (rs : List (ReportKind PlanPair)) (k : ℕ) → IsBoard b → HasTaken b rs → route_by_newest first b k ≡ route_by_reports first rs k
taken_route first b rs k is taken = let course : course_of_board first b ≡ course_of_reports first rs = taken_course first b rs is taken in λ i. route (course i) (λ f. taken.facts f i) k
