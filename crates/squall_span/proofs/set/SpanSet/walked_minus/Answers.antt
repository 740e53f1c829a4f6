use Rattle.std.proofs.Common.{sym, subst, ◌∙◌}
use Rattle.squall_span.specs.Spans.{IsSet, EndsBeyond}
use Rattle.squall_span.specs.SpanLaws.{set-minus}
use Rattle.squall_span.specs.BeyondLaws.{beyond_ends}
use Rattle.squall_span.proofs.Made.{minus_none, minus_beyond}
use Rattle.squall_span.proofs.set.SpanSet.walked_minus.Goals as goal

pub returns-in_default : goal.returns-in_default
returns-in_default c = minus_none c.args.self.now c.args.other.now c.empty.result (sym c.spans-rest.ensures.value ∙ c.in_default.ensures.steps.0) c.known.ensures c.empty.ensures

pub alone-requires-clause-ends : goal.alone-requires-clause-ends
alone-requires-clause-ends c =
    subst (λ n. EndsBeyond n c.spans_beyond-others.result) c.lo.ensures.value (subst (EndsBeyond c.lo.result) (sym c.spans_beyond-others.ensures.value) (beyond_ends c.lo.result c.args.other.now))

pub of_spans-requires : goal.of_spans-requires
of_spans-requires c =
    let is = minus_beyond c.args.self.now c.args.other.now c.spans_beyond-others.result c.in_ok-spans.spans.items c.next.new.self c.in-Some.first c.lo.result c.spans-rest.ensures.set c.known.ensures (sym c.spans-rest.ensures.value ∙ c.in-Some.ensures.steps) c.lo.ensures.value c.spans_beyond-others.ensures.value c.in_ok-spans.ensures.canonical c.in_ok-spans.ensures.keys in
    subst IsSet (sym is) (set-minus c.args.self.now c.args.other.now c.spans-rest.ensures.set c.known.ensures)

pub returns : goal.returns
returns c = c.of_spans.ensures ∙ minus_beyond c.args.self.now c.args.other.now c.spans_beyond-others.result c.in_ok-spans.spans.items c.next.new.self c.in-Some.first c.lo.result c.spans-rest.ensures.set c.known.ensures (sym c.spans-rest.ensures.value ∙ c.in-Some.ensures.steps) c.lo.ensures.value c.spans_beyond-others.ensures.value c.in_ok-spans.ensures.canonical c.in_ok-spans.ensures.keys
