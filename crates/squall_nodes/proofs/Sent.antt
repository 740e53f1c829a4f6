-- What may be sent: a report that a board has taken, and all that it tells.
use Rattle.std.proofs.Common.{◌≡◌, ℕ, true, ◌≤◌, refl, sym, ap, subst, ◌∙◌, arith, inl, inr, ⊎_elim, le_refl}
use Rattle.std.specs.Prelude.{◌⊎◌, max}
use Rattle.std.proofs.lemmas.Bool.{or_right}
use Rattle.squall_join.specs.declared.flat.Flat.TheVariants.{Unknown}
use Rattle.squall_report.specs.declared.report.ReportKind.{ReportKind}
use Rattle.squall_report.specs.Issues.{PlanPair}
use Rattle.squall_report.specs.Told.{both_issued}
use Rattle.squall_report.specs.Queries.{Queries, no_queries, joined_queries, queries_by_report}
use Rattle.squall_board.specs.Boards.{BoardValue, IsBoard, empty_board, board_join, report_board}
use Rattle.squall_board.specs.BoardLaws.{board_laws, empty_is}
use Rattle.squall_board.specs.BoardQueries.{queries_of}
use Rattle.squall_protocol.specs.Steps.{IsPartOf}
use Rattle.squall_nodes.specs.Systems.{ReportsMayBeSent, BoardsMayBeSent}
use Rattle.squall_nodes.proofs.Agree.{queries_report}

part_of_join : (f q : Queries) → ((n : ℕ) → (q.issued n ≡ Unknown) ⊎ (f.issued n ≡ Unknown)) → IsPartOf (joined_queries no_queries q) (joined_queries f q)
part_of_join f q apart = record {
  loaded = λ c k h. or_right (f.loaded c k) (q.loaded c k) h;
  done = λ c h. or_right (f.done c) (q.done c) h;
  opened = λ n. omega arith;
  issued = λ n. ⊎_elim (λ (none : q.issued n ≡ Unknown). inl (ap (both_issued Unknown) none)) (λ (none : f.issued n ≡ Unknown). inr (ap (λ x. both_issued x (q.issued n)) (sym none))) (apart n);
}

-- a report's board tells what the report tells
alone : (r : ReportKind PlanPair) → IsBoard (report_board r) → queries_of (report_board r) ≡ joined_queries no_queries (queries_by_report r)
alone r is =
    ap queries_of (sym (board_laws.comm empty_board (report_board r) empty_is.nested is.nested ∙ board_laws.neutral (report_board r) is.nested)) ∙ queries_report empty_board r empty_is is

pub reports_may_be_sent : ReportsMayBeSent
reports_may_be_sent b r is valid apart =
    subst (λ v. IsPartOf v (queries_of (board_join b (report_board r)))) (sym (alone r valid))
    (subst (IsPartOf (joined_queries no_queries (queries_by_report r))) (sym (queries_report b r is valid)) (part_of_join (queries_of b) (queries_by_report r) apart))

pub boards_may_be_sent : BoardsMayBeSent
boards_may_be_sent b = record { loaded = λ c k h. h; done = λ c h. h; opened = λ n. le_refl ((queries_of b).opened n); issued = λ n. inr refl }
