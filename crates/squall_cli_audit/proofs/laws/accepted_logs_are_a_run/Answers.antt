use Rattle.squall_cli_audit.proofs.Verdicts.{fine_is_a_run}
use Rattle.squall_cli_audit.proofs.laws.accepted_logs_are_a_run.Goals as goal

pub returns : goal.returns
returns c = fine_is_a_run
