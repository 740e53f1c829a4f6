use Rattle.std.proofs.Common.{refl}
use Rattle.squall_wire.specs.Hearing.{new_feed}
use Rattle.squall_wire.specs.HearingLaws.{new_is_feed, pieces_are_one_push}
use Rattle.squall_wire.proofs.laws.pieces_begin_the_stream.Goals as goal

pub returns : goal.returns
returns c pieces ms f new h = pieces_are_one_push new_feed pieces ms f new refl new_is_feed h
