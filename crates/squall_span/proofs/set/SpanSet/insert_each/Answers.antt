use Rattle.std.proofs.Common.{ap, ◌∙◌, arith}
use Rattle.squall_span.specs.Spans.{insert_span}
use Rattle.squall_span.proofs.Drafted.{union_before}
use Rattle.squall_span.proofs.set.SpanSet.insert_each.Goals as goal

pub loop-at-preserved : goal.loop-at-preserved
loop-at-preserved c = record {
  within = omega (arith, c.loop-at.invariant.within);
  value = c.in_ok-insert.ensures.value ∙ ap (insert_span c.index-spans-at.result) c.loop-at.invariant.value ∙ union_before c.args.self.now c.args.spans.now c.loop-at.at c.index-spans-at.result c.loop-at-test.true c.loop-at.invariant.within c.index-spans-at.is;
}
