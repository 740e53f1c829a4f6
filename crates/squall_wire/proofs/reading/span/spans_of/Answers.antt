use Rattle.std.proofs.Common.{List, sym, subst, ◌-◌, arith}
use Rattle.squall_span.specs.Spans.{Interval}
use Rattle.std.proofs.lemmas.Result.{err_from_is_err_and}
use Rattle.squall_wire.specs.Limits.{after_span}
use Rattle.squall_wire.specs.Reading.{many_at, span_at}
use Rattle.squall_wire.proofs.Loop.{ends, is_done}
use Rattle.squall_wire.proofs.Spans.{AreBelow, spans_start, room_start, room_next, one_more}
use Rattle.squall_wire.proofs.reading.span.spans_of.Goals as goal

pub returns-in_err-next : goal.returns-in_err-next
returns-in_err-next c =
    let p = err_from_is_err_and c.from_residual-in_err-next.result c.from_residual-in_err-next.ensures.1 in
    rw (p.1, p.2) (ends span_at after_span c.in_err-next.field-0.0 c.loop.spans.set c.args.count c.loop.counter c.loop.floor c.loop.rest.now (many_at span_at after_span c.args.count 0 c.args.bytes.now) c.loop-test.true c.in_err-next.ensures.err c.loop.invariant.so_far)

pub loop-init : goal.loop-init
loop-init c = record {
  so_far = spans_start c.in_ok-spans.spans.set c.args.count c.args.bytes.now c.in_ok-spans.ensures.empty;
  below = subst (λ (l : List Interval). AreBelow 0 l) (sym c.in_ok-spans.ensures.empty) tt;
  room = room_start c.args.count c.args.bytes.now c.in_ok-spans.spans.room c.in_ok-spans.ensures.room;
}

pub add_span-requires : goal.add_span-requires
add_span-requires c = record { room = room_next (c.args.count - c.loop.counter) c.loop.rest.now c.loop.spans.room (omega (arith, c.loop-test.true)) c.loop.invariant.room }

pub loop-preserved : goal.loop-preserved
loop-preserved c =
    let more = one_more c.loop.spans c.add_span.new.spans c.args.count c.loop.counter c.loop.floor c.loop.rest.now c.in_ok-next.next c.in_ok-next.after.now (many_at span_at after_span c.args.count 0 c.args.bytes.now) c.loop-test.true (c.in_ok-next.ensures.ok) c.loop.invariant.so_far c.loop.invariant.below c.loop.invariant.room in
    record { so_far = more.0; below = more.1; room = more.2 }

pub returns : goal.returns
returns c = rw c.into_set.ensures (is_done span_at after_span c.loop.spans.set c.args.count c.loop.counter c.loop.floor c.loop.rest.now (many_at span_at after_span c.args.count 0 c.args.bytes.now) c.loop-test.false c.loop.invariant.so_far)
