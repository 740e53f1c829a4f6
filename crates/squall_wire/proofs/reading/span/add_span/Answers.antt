use Rattle.squall_wire.proofs.Spans.{room_read}
use Rattle.squall_wire.proofs.reading.span.add_span.Goals as goal

pub insert-requires : goal.insert-requires
insert-requires c = record { room = room_read c.args.bytes.now (c.in_ok-lo.lo, c.in_ok-lo.rest.now) (c.in_ok-hi.hi, c.in_ok-hi.rest.now) c.args.spans.now.room c.in_ok-lo.ensures c.in_ok-hi.ensures c.requires.room }
