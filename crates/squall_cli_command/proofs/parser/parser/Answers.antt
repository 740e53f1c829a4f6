use Rattle.squall_cli_command.proofs.Commands.{is_added}
use Rattle.squall_cli_command.proofs.parser.parser.Goals as goal

pub returns : goal.returns
returns c = is_added _ _ c.with_edits.result c.audit_command.result c.added.result c.added.ensures c.with_edits.ensures c.audit_command.ensures.shape
