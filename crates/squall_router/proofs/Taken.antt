-- What a router has heard once it has taken a report.
use Rattle.std.specs.Prelude.{◌≡◌, ℕ, Result, OnOk, true}
use Rattle.std.proofs.Common.{ap, refl}
use Rattle.std.proofs.lemmas.Result.{on_ok_weaker}
use Rattle.squall_join.specs.declared.flat.Flat.TheVariants.{Unknown}
use Rattle.squall_report.specs.declared.report.ReportKind.{ReportKind}
use Rattle.squall_report.specs.Issues.{PlanPair}
use Rattle.squall_report.specs.Facts.{is_report}
use Rattle.squall_report.specs.Told.{told_by_report}
use Rattle.squall_board.specs.Boards.{IsBoard, board_join, report_board, issued}
use Rattle.squall_board.specs.BoardLaws.{report_tells}
use Rattle.squall_board.specs.CourseRoute.{course_of_board}
use Rattle.squall_board.specs.Takes.{TakesReport}
use Rattle.squall_board.specs.TakesLaws.{took, report_board_is}
use Rattle.squall_router.specs.Routers.{RouterValue, router_with, course_of_router}
use Rattle.squall_router.proofs.Newer.{same_without_issues}

-- its board has taken the report
pub took_report : {T E : Type 0} (r : Result T E) (new s : RouterValue) (q : ReportKind PlanPair) → IsBoard s.board → is_report q ≡ true → OnOk r (new ≡ router_with s.first (board_join s.board (report_board q)))
    → OnOk r (TakesReport s.board q new.board)
took_report r new s q is_b is_q ok = took r new.board s.board (report_board q) s.board (told_by_report q) refl
    (on_ok_weaker r (λ (e : new ≡ router_with s.first (board_join s.board (report_board q))). ap (λ (x : RouterValue). x.board) e) ok)
    is_b (report_board_is q is_q) (report_tells q)

-- a report that issues nothing leaves the course
pub stays_without_issue : (s : RouterValue) (q : ReportKind PlanPair) → IsBoard s.board → is_report q ≡ true → ((n : ℕ) → issued (report_board q) n ≡ Unknown) → course_of_router s ≡ course_of_board s.first (board_join s.board (report_board q))
stays_without_issue s q is_b is_q none = same_without_issues s.first s.board (report_board q) is_b (report_board_is q is_q) none
