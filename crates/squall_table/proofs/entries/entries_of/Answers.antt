use Rattle.std.proofs.Common.{arith}
use Rattle.squall_table.proofs.Entered.{entries_more}
use Rattle.squall_table.proofs.entries.entries_of.Goals as goal

pub loop-leg-preserved : goal.loop-leg-preserved
loop-leg-preserved c = record {
  entries = entries_more c.args.legs.now c.loop-leg.entries.entries c.push.new.self.entries c.loop-leg.leg-index c.hi.result c.leg-item.result c.loop-leg-test.true c.leg-item.is c.hi.ensures.value c.loop-leg.invariant.entries c.push.ensures.entries;
  room = omega (arith, c.push.ensures.room, c.loop-leg.invariant.room);
}
