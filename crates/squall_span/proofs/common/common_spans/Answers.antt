use Rattle.std.proofs.Common.{sym, ◌∙◌}
use Rattle.squall_span.proofs.Meeting.{none_own, none_other, found_both}
use Rattle.squall_span.proofs.common.common_spans.Goals as goal

pub returns-in_default-next-clause-keys : goal.returns-in_default-next-clause-keys
returns-in_default-next-clause-keys c k =
    none_own c.args.first.now c.args.second.now c.spans_beyond-own.result c.new-in_default-next.result.items c.in-Some.start c.lo.result k c.first.ensures.set.0 (sym c.first.ensures.value ∙ c.in-Some.is) c.lo.ensures.value c.spans_beyond-own.ensures.value c.in_default-next.ensures.steps.0 c.new-in_default-next.ensures.items

pub returns-in_default-next-2-clause-keys : goal.returns-in_default-next-2-clause-keys
returns-in_default-next-2-clause-keys c k =
    none_other c.args.first.now c.args.second.now c.spans_beyond-own.result c.spans_beyond-others.result c.new-in_default-next-2.result.items c.in-Some.start c.in-Some-next.one c.next.new.self c.lo.result c.lo-2.result k c.spans_beyond-own.ensures.set.0 c.first.ensures.set.0 (sym c.first.ensures.value ∙ c.in-Some.is) c.lo.ensures.value c.spans_beyond-own.ensures.value c.in-Some-next.ensures.steps c.lo-2.ensures.value c.spans_beyond-others.ensures.value c.in_default-next-2.ensures.steps.0 c.new-in_default-next-2.ensures.items

pub returns-clause-keys : goal.returns-clause-keys
returns-clause-keys c =
    found_both (λ v. v.items) c.walk_spans.result c.args.first.now c.args.second.now c.spans_beyond-own.result c.spans_beyond-others.result c.in-Some.start c.in-Some-next.one c.in-Some-next-2.two c.next.new.self c.next-2.new.self c.lo.result c.lo-2.result c.spans_beyond-own.ensures.set.0 c.first.ensures.set.0 (sym c.first.ensures.value ∙ c.in-Some.is) c.lo.ensures.value c.spans_beyond-own.ensures.value c.in-Some-next.ensures.steps c.lo-2.ensures.value c.spans_beyond-others.ensures.value c.in-Some-next-2.ensures.steps c.walk_spans.ensures.keys
