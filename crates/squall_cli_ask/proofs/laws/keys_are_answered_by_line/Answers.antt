use Rattle.squall_cli_ask.proofs.ByLine.{by_line}
use Rattle.squall_cli_ask.proofs.laws.keys_are_answered_by_line.Goals as goal

pub returns : goal.returns
returns c = by_line
