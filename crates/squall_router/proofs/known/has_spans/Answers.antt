use Rattle.std.proofs.Common.{ap, sym, ◌∙◌}
use Rattle.std.proofs.lemmas.Bool.{true≢false}
use Rattle.squall_span.specs.Spans.{has}
use Rattle.squall_router.proofs.Already.{one_more_in}
use Rattle.squall_router.proofs.known.has_spans.Goals as goal

pub loop-span-init : goal.loop-span-init
loop-span-init c k h rest = rest (ap (λ l. has l k) (c.into_iter-span-iterator.ensures.into_iter_gives ∙ c.spans-span-items.ensures.value) ∙ h)

pub loop-span-preserved : goal.loop-span-preserved
loop-span-preserved c = one_more_in c.args.set.now c.args.wanted.now c.loop-span.span-iterator c.next.new.self c.in-Some.span c.in-Some.ensures.steps (c.has_span.ensures.0 c.if-not-has_span.false) c.loop-span.invariant

pub returns : goal.returns
returns c all k h = c.loop-span.invariant k h (λ e. absurd (true≢false (sym e ∙ ap (λ l. has l k) c.in-None.ensures.steps.0)))
