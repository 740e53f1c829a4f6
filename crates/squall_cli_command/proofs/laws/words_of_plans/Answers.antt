use Rattle.std.proofs.Common.{refl}
use Rattle.clap.proofs.OnLiterals.{clap_on_literals}
use Rattle.squall_cli_command.proofs.laws.words_of_plans.Goals as goal

pub returns-clause-one : goal.returns-clause-one
unfolding clap_on_literals
returns-clause-one c = λ name. (refl, refl)

pub returns-clause-more : goal.returns-clause-more
unfolding clap_on_literals
returns-clause-more c = λ name. (refl, refl)

pub returns-clause-split : goal.returns-clause-split
unfolding clap_on_literals
returns-clause-split c = λ name. (refl, refl)

pub returns-clause-diff : goal.returns-clause-diff
unfolding clap_on_literals
returns-clause-diff c = λ name. (refl, refl)

pub returns-clause-key : goal.returns-clause-key
unfolding clap_on_literals
returns-clause-key c = λ name. (refl, refl)
