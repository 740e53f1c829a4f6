use Rattle.squall_cli_race.proofs.Endings.{one_text}
use Rattle.squall_cli_race.proofs.laws.one_race_text.Goals as goal

pub returns : goal.returns
returns c = one_text
