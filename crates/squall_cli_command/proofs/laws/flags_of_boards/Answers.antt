use Rattle.std.proofs.Common.{refl}
use Rattle.clap.proofs.OnLiterals.{clap_on_literals}
use Rattle.squall_cli_command.proofs.laws.flags_of_boards.Goals as goal

pub returns-clause-status : goal.returns-clause-status
unfolding clap_on_literals
returns-clause-status c = λ name. (refl, refl)

pub returns-clause-waiting : goal.returns-clause-waiting
unfolding clap_on_literals
returns-clause-waiting c = λ name. (refl, refl)

pub returns-clause-judged : goal.returns-clause-judged
unfolding clap_on_literals
returns-clause-judged c = λ name. (refl, refl)

pub returns-clause-beyond : goal.returns-clause-beyond
unfolding clap_on_literals
returns-clause-beyond c = λ name. (refl, refl)

pub returns-clause-quiet : goal.returns-clause-quiet
unfolding clap_on_literals
returns-clause-quiet c = λ name. (refl, refl)
