use Rattle.std.proofs.Common.{None}
use Rattle.squall_wire.specs.HearingLaws.{pieces_are_one_stream}
use Rattle.squall_wire.proofs.laws.pieces_are_one_stream.Goals as goal

pub returns : goal.returns
returns c s t ms ns f r q = pieces_are_one_stream s t ms ns None f r q
