use Rattle.std.proofs.Common.{refl}
use Rattle.clap.proofs.OnLiterals.{clap_on_literals}
use Rattle.squall_cli_command.proofs.laws.words_of_boards.Goals as goal

pub returns-clause-report : goal.returns-clause-report
unfolding clap_on_literals
returns-clause-report c = λ name. (refl, refl)

pub returns-clause-board : goal.returns-clause-board
unfolding clap_on_literals
returns-clause-board c = λ name. (refl, refl)
