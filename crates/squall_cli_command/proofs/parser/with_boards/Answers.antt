use Rattle.squall_cli_command.proofs.Commands.{is_added}
use Rattle.squall_cli_command.proofs.parser.with_boards.Goals as goal

pub returns : goal.returns
returns c =
    let first = is_added _ _ c.with_routes.result c.merge_command.result c.added.result
    c.added.ensures c.with_routes.ensures c.merge_command.ensures.shape in
    is_added _ _ c.added.result c.beyond_command.result c.added-2.result c.added-2.ensures first c.beyond_command.ensures.shape
