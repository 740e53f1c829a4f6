use Rattle.std.proofs.Common.{refl}
use Rattle.clap.proofs.OnLiterals.{clap_on_literals}
use Rattle.squall_cli_command.proofs.laws.forms_of_answers.Goals as goal

pub returns-clause-check : goal.returns-clause-check
unfolding clap_on_literals
returns-clause-check c = λ name. (refl, refl)

pub returns-clause-course : goal.returns-clause-course
unfolding clap_on_literals
returns-clause-course c = λ name. (refl, refl)

pub returns-clause-board : goal.returns-clause-board
unfolding clap_on_literals
returns-clause-board c = λ name. (refl, refl)

pub returns-clause-status : goal.returns-clause-status
unfolding clap_on_literals
returns-clause-status c = λ name. (refl, refl)

pub returns-clause-waiting : goal.returns-clause-waiting
unfolding clap_on_literals
returns-clause-waiting c = λ name. (refl, refl)

pub returns-clause-legs : goal.returns-clause-legs
unfolding clap_on_literals
returns-clause-legs c = λ name. (refl, refl)
