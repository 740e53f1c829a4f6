use Rattle.squall_cli_scenario.proofs.OneScript.{one_script}
use Rattle.squall_cli_scenario.proofs.laws.one_script.Goals as goal

pub returns : goal.returns
returns c = one_script
