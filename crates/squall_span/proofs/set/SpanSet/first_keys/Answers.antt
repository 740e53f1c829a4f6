use Rattle.std.proofs.Common.{◌≤◌, List, ap, sym, subst, ◌∙◌, arith}
use Rattle.squall_span.specs.Spans.{Interval, has, IsCanonical}
use Rattle.squall_span.specs.BeyondLaws.{first_cons}
use Rattle.squall_span.proofs.Sweeping.{first_least, first_ends}
use Rattle.squall_span.proofs.set.SpanSet.first_keys.Goals as goal

pub returns-then-count-max-clause-least : goal.returns-then-count-max-clause-least
returns-then-count-max-clause-least c k h =
    let first = first_cons c.args.self.now c.in_ok-first.first (sym c.first.ensures.value ∙ c.in_ok-first.was) in
    first_least c.in_ok-first.first first.0 k (subst IsCanonical first.1 c.first.ensures.set.0) (sym (ap (λ (l : List Interval). has l k) first.1) ∙ h)

pub returns-then-count-max-clause-whole : goal.returns-then-count-max-clause-whole
returns-then-count-max-clause-whole c _ =
    let first = first_cons c.args.self.now c.in_ok-first.first (sym c.first.ensures.value ∙ c.in_ok-first.was) in
    ap (λ (l : List Interval). has l c.in_ok-first.first.hi) first.1 ∙ first_ends c.in_ok-first.first first.0 (subst IsCanonical first.1 c.first.ensures.set.0)

pub returns-clause-least : goal.returns-clause-least
returns-clause-least c k h =
    let first = first_cons c.args.self.now c.in_ok-first.first (sym c.first.ensures.value ∙ c.in_ok-first.was) in
    let least : c.in_ok-first.first.lo ≤ k = first_least c.in_ok-first.first first.0 k (subst IsCanonical first.1 c.first.ensures.set.0) (sym (ap (λ (l : List Interval). has l k) first.1) ∙ h) in
    let low = ap (λ (s : Interval). s.lo) c.between.ensures in
    omega (arith, least, low, c.lo.ensures.value, c.lo-2.ensures.value)
