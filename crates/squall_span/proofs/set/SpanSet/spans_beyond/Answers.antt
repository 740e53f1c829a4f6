use Rattle.std.proofs.Common.{◌≡◌, drop, sym, ap, subst, ◌∙◌}
use Rattle.std.proofs.lemmas.List.{take_rest}
use Rattle.squall_span.specs.Spans.{IsCanonical, spans_beyond}
use Rattle.squall_span.specs.Stored.{spans_in}
use Rattle.squall_span.proofs.Places.{canonical_drop}
use Rattle.squall_span.specs.BeyondLaws.{canonical_beyond}
use Rattle.squall_span.proofs.Beyond.{ended_beyond}
use Rattle.squall_span.proofs.set.SpanSet.spans_beyond.Goals as goal

pub few-requires : goal.few-requires
few-requires c =
    let set = subst IsCanonical (ap spans_in c.in-Few.is ∙ sym c.deref.ensures.value) c.self.invariant.0 in
    subst IsCanonical (sym (take_rest c.deref.result.now c.ended.result)) (canonical_drop c.deref.result.now c.ended.result set)

pub many-requires : goal.many-requires
many-requires c =
    let is = ap spans_in c.in-Many.is in
    subst IsCanonical (sym c.iter_beyond.ensures) (canonical_beyond c.args.bound c.deref-in-Many.result.now (subst IsCanonical (is ∙ sym c.deref-in-Many.ensures) c.self.invariant.0))

pub returns-in-Few-clause-value : goal.returns-in-Few-clause-value
returns-in-Few-clause-value c =
    let is : c.deref-in-Few.result.now ≡ c.args.self.now = c.deref-in-Few.ensures.value ∙ sym (ap spans_in c.in-Few.is) ∙ c.self.view_is in
    let same : c.deref.result.now ≡ c.deref-in-Few.result.now = c.deref.ensures.value ∙ sym c.deref-in-Few.ensures.value in
    c.few.ensures ∙ take_rest c.deref.result.now c.ended.result
    ∙ ap (drop c.ended.result) same
    ∙ sym (ended_beyond c.deref-in-Few.result.now c.args.bound c.ended.result c.ended.ensures)
    ∙ ap (spans_beyond c.args.bound) is
