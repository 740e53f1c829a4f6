use Rattle.std.proofs.Common.{refl}
use Rattle.clap.proofs.OnLiterals.{clap_on_literals}
use Rattle.squall_cli_command.proofs.laws.frames_of_standard_input.Goals as goal

pub returns-clause-lines : goal.returns-clause-lines
unfolding clap_on_literals
returns-clause-lines c = λ name. (refl, refl)

pub returns-clause-json : goal.returns-clause-json
unfolding clap_on_literals
returns-clause-json c = λ name. (refl, refl)

pub returns-clause-until : goal.returns-clause-until
unfolding clap_on_literals
returns-clause-until c = λ name. (refl, refl)

pub returns-clause-both : goal.returns-clause-both
unfolding clap_on_literals
returns-clause-both c = λ name. (refl, refl)
