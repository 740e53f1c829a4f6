use Rattle.std.proofs.Common.{ap, ◌∙◌}
use Rattle.squall_board.specs.Boards.{BoardValue, empty_board, board_join, report_board}
use Rattle.squall_board.specs.BoardLaws.{board_laws}
use Rattle.squall_board.specs.TakesLaws.{report_board_is}
use Rattle.squall_router.proofs.issues.issue_alone.Goals as goal

pub returns : goal.returns
returns c =
    let board = report_board c.args.report.now in
    let nested = (report_board_is c.args.report.now c.kind-kind.ensures.limits).nested in
    c.in_ok-take.ensures.takes.joined
    ∙ ap (λ (b : BoardValue). board_join b board) c.new-delta.ensures.empty
    ∙ board_laws.comm empty_board board board_laws.bottom_is nested
    ∙ board_laws.neutral board nested
