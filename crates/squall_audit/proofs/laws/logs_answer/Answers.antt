use Rattle.squall_audit.proofs.OneLine.{logs_answer}
use Rattle.squall_audit.proofs.laws.logs_answer.Goals as goal

pub returns : goal.returns
returns c = logs_answer
