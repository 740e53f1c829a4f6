use Rattle.squall_wire.specs.HearingLaws.{heard_after_fault}
use Rattle.squall_wire.proofs.laws.faults_stay.Goals as goal

pub returns : goal.returns
returns c = heard_after_fault
