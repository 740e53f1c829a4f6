use Rattle.std.proofs.Common.{◌≡◌, ◌-◌}
use Rattle.squall_wire.specs.Limits.{after_span}
use Rattle.squall_wire.specs.Reading.{many_at, span_at}
use Rattle.squall_wire.specs.Views.{HasRoom}
use Rattle.squall_wire.proofs.Loop.{with_front}
use Rattle.squall_wire.proofs.Spans.{AreBelow}
use Rattle.squall_wire.proofs.reading.span.spans_of.Given as goal

abbrev pub invariant-loop : goal.invariant-loop
invariant-loop l = record {
  so_far : with_front l.spans.set (many_at span_at after_span (l.count - l.counter) l.floor l.rest) ≡ many_at span_at after_span l.count 0 l.bytes;
  below : AreBelow l.floor l.spans.set;
  room : HasRoom (l.count - l.counter) l.rest l.spans.room;
}
