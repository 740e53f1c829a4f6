use Rattle.squall_cli_command.specs.Line.{faults_in, plain_words}
use Rattle.squall_cli_command.proofs.OneSided.{squall_side}
use Rattle.squall_cli_command.proofs.Refusals.{help_or_bad, not_both}
use Rattle.squall_cli_command.proofs.laws.a_fault_is_help_or_bad.Goals as goal

pub returns-clause-one : goal.returns-clause-one
returns-clause-one c = λ words some. help_or_bad (faults_in words) some (squall_side (plain_words words))

pub returns-clause-other : goal.returns-clause-other
returns-clause-other c = λ words. not_both (faults_in words) (squall_side (plain_words words))
