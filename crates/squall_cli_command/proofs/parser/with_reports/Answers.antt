use Rattle.squall_cli_command.proofs.Commands.{is_added}
use Rattle.squall_cli_command.proofs.parser.with_reports.Goals as goal

pub returns : goal.returns
returns c =
    let first = is_added _ _ c.with_runs.result c.report_command.result c.added.result
    c.added.ensures c.with_runs.ensures c.report_command.ensures.shape in
    is_added _ _ c.added.result c.board_command.result c.added-2.result c.added-2.ensures first c.board_command.ensures.shape
