use Rattle.std.proofs.Common.{sym, ap, ◌∙◌}
use Rattle.squall_span.specs.Spans.{spans_beyond, first_span}
use Rattle.squall_span.specs.BeyondLaws.{has_first_beyond, has_none_beyond}
use Rattle.squall_span.proofs.set.SpanSet.has.Goals as goal

pub returns-in-Some : goal.returns-in-Some
returns-in-Some c =
    let at = ap (λ n. first_span (spans_beyond n c.args.self.now)) (sym c.of_key.ensures) ∙ sym c.first_beyond.ensures.value ∙ c.in-Some.is in
    c.has.ensures ∙ sym (has_first_beyond c.args.key c.args.self.now c.in-Some.span c.first_beyond.ensures.set.0 at)

pub returns-in-None : goal.returns-in-None
returns-in-None c =
    let at = ap (λ n. first_span (spans_beyond n c.args.self.now)) (sym c.of_key.ensures) ∙ sym c.first_beyond.ensures.value ∙ c.in-None.is in
    sym (has_none_beyond c.args.key c.args.self.now at)
