use Rattle.squall_join.proofs.Remains.{from_below, next_below, rests_more}
use Rattle.squall_join.proofs.rest.rests.Goals as goal

pub reach-at-requires-clause-from : goal.reach-at-requires-clause-from
reach-at-requires-clause-from g c = from_below g.met.K.Ord.total c.args.a.now c.args.b.now c.requires.first c.loop-entry.entry-index c.loop-entry.at c.entry-item.result c.loop-entry-test.true c.entry-item.is c.loop-entry.invariant.below

pub loop-entry-preserved : goal.loop-entry-preserved
loop-entry-preserved g c = record {
  below = next_below g.met.K.Ord.total c.args.a.now c.args.b.now c.requires.first c.loop-entry.entry-index c.reach-at.result c.entry-item.result c.loop-entry-test.true c.entry-item.is c.reach-at.ensures;
  so_far = rests_more g.K.Ord.cmp g.V.Beyond.covered g.V.Beyond.beyond c.args.a.now c.args.b.now c.loop-entry.out.items c.push_rest.new.out.items c.loop-entry.entry-index c.entry-item.result _ c.loop-entry-test.true c.entry-item.is c.value_at.ensures c.loop-entry.invariant.so_far c.in_ok-push_rest.ensures;
}
