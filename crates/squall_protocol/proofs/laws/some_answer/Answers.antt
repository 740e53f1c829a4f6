use Rattle.squall_protocol.proofs.Start.{kept_always}
use Rattle.squall_protocol.proofs.SomeStep.{some_step}
use Rattle.squall_protocol.proofs.laws.some_answer.Goals as goal

pub returns : goal.returns
returns c = λ w event reached act. some_step w (kept_always w reached) event act
