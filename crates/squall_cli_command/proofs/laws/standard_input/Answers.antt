use Rattle.std.proofs.Common.{refl}
use Rattle.clap.proofs.OnLiterals.{clap_on_literals}
use Rattle.squall_cli_command.proofs.laws.standard_input.Goals as goal

pub returns-clause-alone : goal.returns-clause-alone
unfolding clap_on_literals
returns-clause-alone c = λ name. (refl, refl)

pub returns-clause-run : goal.returns-clause-run
unfolding clap_on_literals
returns-clause-run c = λ name. (refl, refl)

pub returns-clause-check : goal.returns-clause-check
unfolding clap_on_literals
returns-clause-check c = λ name. (refl, refl)
