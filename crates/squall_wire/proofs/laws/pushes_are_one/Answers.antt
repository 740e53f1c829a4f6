use Rattle.squall_wire.specs.HearingLaws.{pushes_are_one}
use Rattle.squall_wire.proofs.laws.pushes_are_one.Goals as goal

pub returns : goal.returns
returns c = pushes_are_one
