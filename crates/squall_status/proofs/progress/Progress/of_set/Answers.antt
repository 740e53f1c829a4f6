use Rattle.std.proofs.Common.{◌≡◌, ◌<◌, ◌≤◌, sym, ap, subst, ◌∙◌, arith}
use Rattle.squall_key.specs.Keys.{top}
use Rattle.squall_span.specs.Spans.{EndsBeyond, spans_beyond}
use Rattle.squall_span.specs.BeyondLaws.{beyond_ends}
use Rattle.squall_status.specs.Steps.{shared_count, missing_in}
use Rattle.squall_status.proofs.Progressed.{complete_found, none_found, some_found}
use Rattle.squall_status.proofs.Sharing.{are_beyond}
use Rattle.squall_status.proofs.progress.Progress.of_set.Goals as goal

pub returns-in_default : goal.returns-in_default
returns-in_default c =
    let span = c.args.span in
    let full : span.lo < span.hi = omega (arith, c.lo.ensures.below, c.lo.ensures.value) in
    let high : span.hi ≤ top = omega (arith, c.hi-hi.ensures.high, c.hi-hi.ensures.value) in
    let ss = spans_beyond span.lo c.args.set.now in
    let here : c.spans_beyond-spans.result ≡ ss = c.spans_beyond-spans.ensures.value ∙ ap (λ n. spans_beyond n c.args.set.now) c.lo.ensures.value in
    complete_found span c.args.set.now ss full high (are_beyond c.args.set.now span.lo c.spans_beyond-spans.ensures.set.0) (sym (c.first_missing.ensures ∙ ap (missing_in span) here) ∙ c.in_default.is)

pub count_shared-loaded-requires-clause-ends : goal.count_shared-loaded-requires-clause-ends
count_shared-loaded-requires-clause-ends c =
    let again : c.spans_beyond.result ≡ spans_beyond c.args.span.lo c.args.set.now = c.spans_beyond.ensures.value ∙ ap (λ n. spans_beyond n c.args.set.now) c.lo-2.ensures.value in
    subst (EndsBeyond c.args.span.lo) (sym again) (beyond_ends c.args.span.lo c.args.set.now)

pub returns-then-loaded-eq0 : goal.returns-then-loaded-eq0
returns-then-loaded-eq0 c =
    let span = c.args.span in
    let full : span.lo < span.hi = omega (arith, c.lo.ensures.below, c.lo.ensures.value) in
    let high : span.hi ≤ top = omega (arith, c.hi-hi.ensures.high, c.hi-hi.ensures.value) in
    let ss = spans_beyond span.lo c.args.set.now in
    let again : c.spans_beyond.result ≡ ss = c.spans_beyond.ensures.value ∙ ap (λ n. spans_beyond n c.args.set.now) c.lo-2.ensures.value in
    let count = c.count_shared-loaded.ensures ∙ ap (shared_count span) again in
    none_found span c.args.set.now ss full high (are_beyond c.args.set.now span.lo c.spans_beyond-spans.ensures.set.0) (sym count ∙ c.if-loaded-eq0.true)

pub returns-else-loaded-eq0 : goal.returns-else-loaded-eq0
returns-else-loaded-eq0 c =
    let span = c.args.span in
    let full : span.lo < span.hi = omega (arith, c.lo.ensures.below, c.lo.ensures.value) in
    let high : span.hi ≤ top = omega (arith, c.hi-hi.ensures.high, c.hi-hi.ensures.value) in
    let ss = spans_beyond span.lo c.args.set.now in
    let here : c.spans_beyond-spans.result ≡ ss = c.spans_beyond-spans.ensures.value ∙ ap (λ n. spans_beyond n c.args.set.now) c.lo.ensures.value in
    let again : c.spans_beyond.result ≡ ss = c.spans_beyond.ensures.value ∙ ap (λ n. spans_beyond n c.args.set.now) c.lo-2.ensures.value in
    let count = c.count_shared-loaded.ensures ∙ ap (shared_count span) again in
    some_found span c.args.set.now ss full high (are_beyond c.args.set.now span.lo c.spans_beyond-spans.ensures.set.0) c.count_shared-loaded.result c.in-Some.missing count c.if-loaded-eq0.false (sym (c.first_missing.ensures ∙ ap (missing_in span) here) ∙ c.in-Some.is)
