use Rattle.std.proofs.Common.{refl}
use Rattle.squall_wire.specs.Hearing.{new_feed}
use Rattle.squall_wire.specs.HearingLaws.{new_is_feed, cutting_tells_nothing}
use Rattle.squall_wire.proofs.laws.cutting_tells_nothing.Goals as goal

pub returns : goal.returns
returns c ps qs ms ns f g new end e a b = cutting_tells_nothing new_feed new end ps qs ms ns f g refl new_is_feed e a b
