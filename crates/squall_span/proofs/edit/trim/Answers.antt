use Rattle.std.proofs.Common.{arith}
use Rattle.squall_span.proofs.Compared.{below_by, from_by}
use Rattle.squall_span.proofs.Removing.{tail_past, tail_whole, tail_cut}
use Rattle.squall_span.proofs.edit.trim.Goals as goal
use Rattle.squall_span.proofs.edit.trim.Goals.{else-at-len-via-then-at-len+else-lt, else-at-len-via-else-at-len}

pub returns-then-lt-clause-from : goal.returns-then-lt-clause-from
returns-then-lt-clause-from c =
    tail_cut c.args.spans.now.items c.args.bound c.args.at c.hi.result c.index.result.now c.index-then-lt.result.now c.between.result c.requires.set c.requires.ended (omega arith) c.index.ensures c.index-then-lt.ensures
    (below_by _ _ _ c.lo.ensures.value c.if-lt.ensures) c.hi.ensures.value c.between.ensures

pub returns-else-at-len-clause-from : goal.returns-else-at-len-clause-from
returns-else-at-len-clause-from c = elim c.else-at-len.branch [
  | else-at-len-via-then-at-len+else-lt w ↦
      tail_whole c.args.spans.now.items c.args.bound c.args.at w.index.result.now c.requires.set c.requires.ended (omega (arith, w.if-at-len.true)) w.index.ensures (from_by _ _ _ w.lo.ensures.value w.if-lt.ensures)
  | else-at-len-via-else-at-len w ↦ tail_past c.args.spans.now.items c.args.bound c.args.at c.requires.set c.requires.ended (omega (arith, w.if-at-len.false))
]
