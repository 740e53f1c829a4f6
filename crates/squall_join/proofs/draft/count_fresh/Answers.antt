use Rattle.std.proofs.Common.{arith}
use Rattle.squall_join.proofs.Drafting.{fresh_more, fresh_at_most}
use Rattle.squall_join.proofs.draft.count_fresh.Goals as goal

pub loop-part-preserved : goal.loop-part-preserved
loop-part-preserved g c =
    let more = fresh_more c.args.parts.now c.loop-part.part-index c.part-item.result c.loop-part-test.true c.part-item.is in
    (omega (arith, more, c.loop-part.invariant.0, c.adds-count.ensures), omega (arith, fresh_at_most c.part-item.result.1, c.loop-part.invariant.1, c.adds-count.ensures))
