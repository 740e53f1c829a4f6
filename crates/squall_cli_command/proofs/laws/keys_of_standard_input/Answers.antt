use Rattle.std.proofs.Common.{refl}
use Rattle.clap.proofs.OnLiterals.{clap_on_literals}
use Rattle.squall_cli_command.proofs.laws.keys_of_standard_input.Goals as goal

pub returns-clause-none : goal.returns-clause-none
unfolding clap_on_literals
returns-clause-none c = λ name. (refl, refl)

pub returns-clause-dash : goal.returns-clause-dash
unfolding clap_on_literals
returns-clause-dash c = λ name. (refl, refl)
