use Rattle.squall_cli_ask.proofs.Watched.{ended_refuses, fault_refuses}
use Rattle.squall_cli_ask.proofs.watching.refuse_plan.Goals as goal

pub returns-in-Ok-clause-text : goal.returns-in-Ok-clause-text
returns-in-Ok-clause-text g c =
    let t = c.in-Ok.ensures.text in
    (t.0, t.1, ended_refuses c.in-Ok.field-0 c.args.answer.now.text t.0 t.2)

pub returns-in-Err-clause-text : goal.returns-in-Err-clause-text
returns-in-Err-clause-text g c =
    let t = c.in-Err.ensures.text in
    (t.0, t.1, fault_refuses c.in-Err.fault c.args.answer.now.text t.0 t.2)
