use Rattle.squall_cli_command.proofs.Commands.{is_added}
use Rattle.squall_cli_command.proofs.parser.with_names.Goals as goal

pub returns : goal.returns
returns c =
    let first = is_added _ _ c.with_digests.result c.plan_command.result c.added.result
    c.added.ensures c.with_digests.ensures c.plan_command.ensures.shape in
    is_added _ _ c.added.result c.key_command.result c.added-2.result c.added-2.ensures first c.key_command.ensures.shape
