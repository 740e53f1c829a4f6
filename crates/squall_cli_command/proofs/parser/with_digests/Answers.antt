use Rattle.squall_cli_command.proofs.Commands.{is_added}
use Rattle.squall_cli_command.proofs.parser.with_digests.Goals as goal

pub returns : goal.returns
returns c =
    let first = is_added _ _ c.with_boards.result c.digest_command.result c.added.result
    c.added.ensures c.with_boards.ensures c.digest_command.ensures.shape in
    is_added _ _ c.added.result c.repair_command.result c.added-2.result c.added-2.ensures first c.repair_command.ensures.shape
