use Rattle.squall_audit.proofs.Judged.{logs_are_judged, logs_are_written}
use Rattle.squall_audit.proofs.Walk.{reached_by}
use Rattle.squall_audit.proofs.laws.logs_are_judged.Goals as goal

pub returns-clause-judged : goal.returns-clause-judged
returns-clause-judged c = logs_are_judged

pub returns-clause-written : goal.returns-clause-written
returns-clause-written c = logs_are_written

pub returns-clause-reached : goal.returns-clause-reached
returns-clause-reached c = λ s u logs reached has. reached_by s u has.run reached has.trace
