use Rattle.squall_cli_scenario.proofs.Refusals.{refused_ends}
use Rattle.squall_cli_scenario.proofs.laws.refused_ends_in_a_bad_line.Goals as goal

pub returns : goal.returns
returns c = refused_ends
