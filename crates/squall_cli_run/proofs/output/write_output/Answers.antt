use Rattle.std.proofs.Common.{take}
use Rattle.squall_cli_run.proofs.Sent.{front_ready}
use Rattle.squall_cli_run.proofs.output.write_output.Goals as goal

pub returns-in-Err-clause-written : goal.returns-in-Err-clause-written
returns-in-Err-clause-written g c = λ output ready.
    let sent = c.in-Err.ensures.err in
    (take sent.0 c.args.text.now, sent.1, front_ready c.args.ended c.args.text.now sent.0 output ready)
