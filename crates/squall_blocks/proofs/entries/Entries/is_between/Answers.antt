use Rattle.std.proofs.Common.{arith}
use Rattle.squall_blocks.specs.EntriesLaws.{rise_more, no_more}
use Rattle.squall_blocks.proofs.entries.Entries.is_between.Goals as goal

pub returns-then-rank : goal.returns-then-rank
returns-then-rank g c =
    no_more c.args.from c.args.to c.loop-at.at c.loop-at.last c.args.self.now c.at-end.result c.loop-at.invariant.1 c.at-end.ensures (omega (arith, c.if-rank.true, c.rank.ensures.value, c.rank-in-loop-at.ensures.value))

pub loop-at-preserved : goal.loop-at-preserved
loop-at-preserved g c =
    rise_more c.args.from c.loop-at.at c.loop-at.last c.args.self.now c.at-end.result c.loop-at.invariant c.at-end.ensures (omega (arith, c.if-rank.false, c.rank.ensures.value, c.rank-in-loop-at.ensures.value))
