use Rattle.squall_cli_command.proofs.Commands.{is_added}
use Rattle.squall_cli_command.proofs.parser.with_courses.Goals as goal

pub returns : goal.returns
returns c =
    let first = is_added _ _ c.with_reports.result c.status_command.result c.added.result
    c.added.ensures c.with_reports.ensures c.status_command.ensures.shape in
    is_added _ _ c.added.result c.picture_command.result c.added-2.result c.added-2.ensures first c.picture_command.ensures.shape
