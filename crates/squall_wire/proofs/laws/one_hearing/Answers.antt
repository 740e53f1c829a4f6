use Rattle.squall_wire.specs.HearingLaws.{one_hearing}
use Rattle.squall_wire.proofs.laws.one_hearing.Goals as goal

pub returns : goal.returns
returns c = one_hearing
