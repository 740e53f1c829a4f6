use Rattle.std.specs.Prelude.{◌≡◌, OnOk}
use Rattle.std.proofs.Common.{subst}
use Rattle.squall_report.specs.Told.{TellsAll, told_by_report}
use Rattle.squall_board.specs.Boards.{BoardValue, board_join, report_board, told}
use Rattle.squall_router.specs.Routers.{RouterValue, router_with}
use Rattle.squall_router.proofs.Already.{known_stays}
use Rattle.squall_router.proofs.Taken.{took_report, stays_without_issue}
use Rattle.squall_router.proofs.router.Router.take.Goals as goal

pub returns-then-tells_report-clause-takes : goal.returns-then-tells_report-clause-takes
returns-then-tells_report-clause-takes c =
    known_stays c.args.self.now.board c.args.report.now c.known.ensures.board c.kind-kind.ensures.limits
    (subst (λ (r : RouterValue). TellsAll (told r.board) (told_by_report c.args.report.now)) c.self.view_is (c.tells_report.ensures.0 c.if-tells_report.true))

pub returns-then-is_issue-clause-takes : goal.returns-then-is_issue-clause-takes
returns-then-is_issue-clause-takes c =
    let s = c.args.self.now in
    let ok : OnOk c.take_up.result (c.take_up.new.self ≡ router_with s.first (board_join s.board (report_board c.args.report.now))) = subst (λ (d : BoardValue). OnOk c.take_up.result (c.take_up.new.self ≡ router_with s.first (board_join s.board d))) c.in_ok-issue.ensures c.take_up.ensures.ok in
    took_report c.take_up.result c.take_up.new.self s c.args.report.now c.known.ensures.board c.kind-kind.ensures.limits ok

pub stay-requires : goal.stay-requires
stay-requires c = stays_without_issue c.args.self.now c.args.report.now c.known.ensures.board c.kind-kind.ensures.limits (c.is_issue.ensures c.if-is_issue.false)

pub returns-clause-takes : goal.returns-clause-takes
returns-clause-takes c = took_report c.stay.result c.stay.new.self c.args.self.now c.args.report.now c.known.ensures.board c.kind-kind.ensures.limits c.stay.ensures.ok
