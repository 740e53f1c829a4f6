use Rattle.squall_cli_command.proofs.Commands.{is_added}
use Rattle.squall_cli_command.proofs.parser.with_edits.Goals as goal

pub returns : goal.returns
returns c =
    let first = is_added _ _ c.with_names.result c.split_command.result c.added.result
    c.added.ensures c.with_names.ensures c.split_command.ensures.shape in
    is_added _ _ c.added.result c.diff_command.result c.added-2.result c.added-2.ensures first c.diff_command.ensures.shape
