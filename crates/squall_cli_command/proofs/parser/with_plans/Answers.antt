use Rattle.std.proofs.Common.{Ok}
use Rattle.squall_cli_command.proofs.Commands.{is_added}
use Rattle.squall_cli_command.proofs.parser.with_plans.Goals as goal

pub returns : goal.returns
returns c =
    let first = is_added _ _ (Ok c.program.result) c.check_command.result c.added.result
    c.added.ensures c.program.ensures c.check_command.ensures.shape in
    is_added _ _ c.added.result c.course_command.result c.added-2.result c.added-2.ensures first c.course_command.ensures.shape
