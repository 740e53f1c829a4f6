use Rattle.std.proofs.Common.{◌≡◌, ◌<◌, ◌≤◌, ◌+◌, min, suc, length, take, drop, map, sym, ap, ◌∙◌, arith, length-set}
use Rattle.squall_c_values.specs.Rooms.{over}
use Rattle.squall_c_values.specs.Values.{c_span}
use Rattle.squall_c_values.proofs.Written.{written_more, taken_min, taken_count, next_item, no_item}
use Rattle.squall_c_values.proofs.spans.put_all.Goals as goal

pub returns-in_default-clause-spans : goal.returns-in_default-clause-spans
returns-in_default-clause-spans c =
    let none = no_item c.args.spans c.loop-count.count (sym c.loop-count.invariant.rest ∙ c.in_default.ensures.steps.0) in
    let n : c.loop-count.count ≡ min (length c.args.spans) (length c.args.room.now) = omega (arith, none, c.loop-count.invariant.within, c.loop-count.invariant.fits) in
    c.loop-count.invariant.room ∙ ap (λ l. over l c.args.room.now) (taken_min c_span c.args.spans c.args.room.now c.loop-count.count n)

pub returns-in_default-clause-count : goal.returns-in_default-clause-count
returns-in_default-clause-count c =
    let none = no_item c.args.spans c.loop-count.count (sym c.loop-count.invariant.rest ∙ c.in_default.ensures.steps.0) in
    taken_count c_span c.args.spans c.args.room.now c.loop-count.count (omega (arith, none, c.loop-count.invariant.within, c.loop-count.invariant.fits))

pub loop-count-preserved : goal.loop-count-preserved
loop-count-preserved c =
    let next = next_item c.args.spans c.next.new.self c.loop-count.count c.in-Some.span (sym c.loop-count.invariant.rest ∙ c.in-Some.ensures.steps) in
    let room : c.loop-count.count < length c.args.room.now = omega (arith, c.loop-count-test.true, c.loop-count.invariant.same) in
    let one : c.loop-count.count + 1 ≡ suc c.loop-count.count = omega arith in
    record {
      room = written_more c_span c.args.spans c.args.room.now c.loop-count.room c.loop-count.count c.in-Some.span c.in-Some.span c.c_span.result next.0 room (next.1 c.in-Some.span) c.c_span.ensures c.loop-count.invariant.room
          ∙ ap (λ n. over (take n (map c_span c.args.spans)) c.args.room.now) (sym one);
      rest = sym next.2 ∙ ap (λ n. drop n c.args.spans) (sym one);
      within = omega (arith, next.0);
      same = length-set c.loop-count.room c.loop-count.count c.c_span.result ∙ c.loop-count.invariant.same;
      fits = omega (arith, room);
    }

pub returns-clause-spans : goal.returns-clause-spans
returns-clause-spans c =
    let n : c.loop-count.count ≡ min (length c.args.spans) (length c.args.room.now) = omega (arith, c.loop-count-test.false, c.loop-count.invariant.within, c.loop-count.invariant.fits, c.loop-count.invariant.same) in
    c.loop-count.invariant.room ∙ ap (λ l. over l c.args.room.now) (taken_min c_span c.args.spans c.args.room.now c.loop-count.count n)

pub returns-clause-count : goal.returns-clause-count
returns-clause-count c =
    taken_count c_span c.args.spans c.args.room.now c.loop-count.count (omega (arith, c.loop-count-test.false, c.loop-count.invariant.within, c.loop-count.invariant.fits, c.loop-count.invariant.same))
