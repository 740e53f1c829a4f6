use Rattle.std.proofs.Common.{refl}
use Rattle.clap.proofs.OnLiterals.{clap_on_literals}
use Rattle.squall_cli_command.proofs.laws.files_of_routes.Goals as goal

pub returns-clause-route : goal.returns-clause-route
unfolding clap_on_literals
returns-clause-route c = λ name. (refl, refl)

pub returns-clause-legs : goal.returns-clause-legs
unfolding clap_on_literals
returns-clause-legs c = λ name. (refl, refl)

pub returns-clause-status : goal.returns-clause-status
unfolding clap_on_literals
returns-clause-status c = λ name. (refl, refl)

pub returns-clause-names : goal.returns-clause-names
unfolding clap_on_literals
returns-clause-names c = λ name. (refl, refl)
