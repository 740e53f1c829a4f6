use Rattle.squall_cli_command.proofs.Commands.{is_added}
use Rattle.squall_cli_command.proofs.parser.with_routes.Goals as goal

pub returns : goal.returns
returns c =
    let first = is_added _ _ c.with_watch.result c.route_command.result c.added.result
    c.added.ensures c.with_watch.ensures c.route_command.ensures.shape in
    is_added _ _ c.added.result c.legs_command.result c.added-2.result c.added-2.ensures first c.legs_command.ensures.shape
