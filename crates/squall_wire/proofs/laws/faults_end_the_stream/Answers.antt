use Rattle.std.proofs.Common.{Some, refl}
use Rattle.squall_wire.specs.HearingLaws.{fault_ends_stream}
use Rattle.squall_wire.proofs.laws.faults_end_the_stream.Goals as goal

pub returns : goal.returns
returns c old new s t ms f h = fault_ends_stream old new s t ms (Some f) refl h
