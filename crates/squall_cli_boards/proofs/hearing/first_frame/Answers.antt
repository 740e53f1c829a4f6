use Rattle.squall_wire.specs.Messages.{body_of}
use Rattle.squall_cli_boards.proofs.Heard.{first_joined, fault_joined}
use Rattle.squall_cli_boards.proofs.hearing.first_frame.Goals as goal

pub returns-in-Ok-clause-frame : goal.returns-in-Ok-clause-frame
returns-in-Ok-clause-frame c =
    first_joined c.args.bytes.now c.split_at.result.1.now (body_of c.in-Ok.message, c.in-Ok.used) c.in-Ok.ensures.answer c.in-Ok.ensures.spelled.1 c.split_at.ensures.back

pub returns-in_ok-file_fault-in-Err-clause-fault : goal.returns-in_ok-file_fault-in-Err-clause-fault
returns-in_ok-file_fault-in-Err-clause-fault c =
    let told = c.in_ok-file_fault-in-Err.ensures in
    λ board. fault_joined board c.args.bytes.now c.in-Err.fault c.in_ok-file_fault-in-Err.field-0 c.requires (c.in-Err.ensures.answer told.1) told.0
