use Rattle.squall_cli_command.proofs.Commands.{is_added}
use Rattle.squall_cli_command.proofs.parser.with_watch.Goals as goal

pub returns : goal.returns
returns c =
    is_added _ _ c.with_courses.result c.watch_command.result c.added.result
    c.added.ensures c.with_courses.ensures c.watch_command.ensures.shape
