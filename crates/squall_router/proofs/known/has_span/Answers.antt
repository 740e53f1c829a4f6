use Rattle.std.proofs.Common.{◌≡◌, Some, None, ap, sym, ◌∙◌, arith}
use Rattle.squall_span.specs.Spans.{first_span, spans_beyond}
use Rattle.squall_router.proofs.Already.{within_first, none_within, iff_then}
use Rattle.squall_router.proofs.known.has_span.Goals as goal

pub returns-in-Some : goal.returns-in-Some
returns-in-Some c =
    let s = c.args.span in
    let at : first_span (spans_beyond s.lo c.args.set.now) ≡ Some c.in-Some.there = ap (λ n. first_span (spans_beyond n c.args.set.now)) (sym c.lo.ensures.value) ∙ sym c.first_beyond.ensures.value ∙ c.in-Some.is in
    iff_then c.lies_in.ensures (within_first c.args.set.now c.in-Some.there s (omega (arith, c.lo.ensures.value, c.lo.ensures.below)) c.first_beyond.ensures.set.0 at)

pub returns-in-None : goal.returns-in-None
returns-in-None c =
    let s = c.args.span in
    let at : first_span (spans_beyond s.lo c.args.set.now) ≡ None = ap (λ n. first_span (spans_beyond n c.args.set.now)) (sym c.lo.ensures.value) ∙ sym c.first_beyond.ensures.value ∙ c.in-None.is in
    none_within c.args.set.now s (omega (arith, c.lo.ensures.value, c.lo.ensures.below)) at
