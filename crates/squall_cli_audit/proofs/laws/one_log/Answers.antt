use Rattle.squall_cli_audit.proofs.Verdicts.{one_log_of, bad_is_no_log}
use Rattle.squall_cli_audit.proofs.laws.one_log.Goals as goal

pub returns-clause-one : goal.returns-clause-one
returns-clause-one c = one_log_of

pub returns-clause-bad : goal.returns-clause-bad
returns-clause-bad c = bad_is_no_log
