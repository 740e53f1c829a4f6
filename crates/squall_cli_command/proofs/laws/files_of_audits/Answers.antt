use Rattle.std.proofs.Common.{refl}
use Rattle.clap.proofs.OnLiterals.{clap_on_literals}
use Rattle.squall_cli_command.proofs.laws.files_of_audits.Goals as goal

pub returns : goal.returns
unfolding clap_on_literals
returns c = λ name. (refl, refl)
