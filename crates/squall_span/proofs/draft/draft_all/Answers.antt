use Rattle.std.proofs.Common.{ap, ◌∙◌, arith}
use Rattle.squall_span.specs.Spans.{insert_span}
use Rattle.squall_span.specs.Many.{spans_of}
use Rattle.squall_span.proofs.Drafted.{union_before, some_inserted}
use Rattle.squall_span.proofs.draft.draft_all.Goals as goal

pub loop-at-preserved : goal.loop-at-preserved
loop-at-preserved c = record {
  within = omega (arith, c.loop-at.invariant.within);
  some = some_inserted c.index-spans-at.result c.draft_with.new.draft.1 (spans_of c.loop-at.draft.1) c.in_ok-draft_with.ensures.after;
  set = c.in_ok-draft_with.ensures.set;
  before = c.in_ok-draft_with.ensures.before ∙ c.loop-at.invariant.before;
  value = c.in_ok-draft_with.ensures.after ∙ ap (insert_span c.index-spans-at.result) c.loop-at.invariant.value ∙ union_before (spans_of c.args.draft.now.1) c.args.spans.now c.loop-at.at c.index-spans-at.result c.loop-at-test.true c.loop-at.invariant.within c.index-spans-at.is;
}
