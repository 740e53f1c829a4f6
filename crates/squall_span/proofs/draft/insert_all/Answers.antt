use Rattle.std.proofs.Common.{ap, ◌∙◌, arith}
use Rattle.squall_span.specs.Spans.{insert_span}
use Rattle.squall_span.proofs.Drafted.{union_before}
use Rattle.squall_span.proofs.draft.insert_all.Goals as goal

pub loop-at-preserved : goal.loop-at-preserved
loop-at-preserved c = record {
  within = omega (arith, c.loop-at.invariant.within);
  room = omega (arith, c.loop-at.invariant.room, c.loop-at-test.true, c.insert_one.ensures.len, c.insert_one.ensures.capacity);
  set = c.insert_one.ensures.set;
  value = c.insert_one.ensures.value ∙ ap (insert_span c.index-spans-at.result) c.loop-at.invariant.value ∙ union_before c.args.list.now.items c.args.spans.now c.loop-at.at c.index-spans-at.result c.loop-at-test.true c.loop-at.invariant.within c.index-spans-at.is;
}
