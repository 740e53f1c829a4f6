use Rattle.squall_wire.specs.HearingLaws.{one_frame}
use Rattle.squall_wire.proofs.laws.one_frame.Goals as goal

pub returns : goal.returns
returns c = one_frame
