use Rattle.squall_span.proofs.Changing.{entries_more}
use Rattle.std.proofs.Common.{arith}
use Rattle.squall_span.proofs.changes.entries_of.Goals as goal

pub loop-span-preserved : goal.loop-span-preserved
loop-span-preserved c = record {
  entries = entries_more c.args.spans.now c.loop-span.entries.entries c.push.new.self.entries c.loop-span.span-index c.hi.result c.lo.result c.span-item.result c.loop-span-test.true c.span-item.is c.hi.ensures.value c.lo.ensures.value c.loop-span.invariant.entries c.push.ensures.entries;
  room = omega (arith, c.push.ensures.room, c.loop-span.invariant.room);
}
