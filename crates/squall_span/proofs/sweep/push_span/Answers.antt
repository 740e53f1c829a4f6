use Rattle.std.proofs.Common.{◌≡◌, ◌<◌, ◌≤◌, ◌-◌, max, List, set, get_or, sym, ap, ◌∙◌, subst, arith}
use Rattle.std.proofs.lemmas.List.{get_or_default}
use Rattle.squall_key.specs.Lemmas.{le_from_cmp, gt_from_cmp}
use Rattle.squall_span.specs.Spans.{Interval, interval}
use Rattle.squall_span.proofs.Compared.{max_is}
use Rattle.squall_span.proofs.Merging.{insert_last, insert_end}
use Rattle.squall_span.proofs.sweep.push_span.Goals as goal
use Rattle.squall_span.proofs.sweep.push_span.Goals.{then-count-gt0+else-le, else-count-gt0}

pub returns-then-le : goal.returns-then-le
returns-then-le c =
    let xs : List Interval = c.args.out.now.items in
    let t : Interval = c.index-last.result.now in
    let n = c.len-count.result - 1 in
    let reached : c.lo.result ≤ c.hi.result = le_from_cmp _ _ (sym c.if-le.ensures) in
    let touching : c.args.span.lo ≤ (get_or xs n t).hi = subst (λ (u : Interval). c.args.span.lo ≤ u.hi) c.index-last.ensures (omega arith) in
    let high : c.max.result ≡ max (get_or xs n t).hi c.args.span.hi = c.max.ensures ∙ max_is _ _ ∙ (λ i. max ((c.hi-then-le.ensures.value ∙ ap (λ (u : Interval). u.hi) c.index-last.ensures) i) (c.hi-then-le-2.ensures.value i)) in
    let low : c.lo-then-le.result ≡ (get_or xs n t).lo = c.lo-then-le.ensures.value ∙ ap (λ (u : Interval). u.lo) c.index-last.ensures in
    ap (set xs n) (c.between.ensures ∙ (λ i. interval (low i) (high i)))
    ∙ sym (insert_last c.args.span xs n t (omega arith) c.requires.canonical (omega arith) c.requires.starts touching)

pub returns : goal.returns
returns c =
    let xs : List Interval = c.args.out.now.items in
    c.in_ok-push.ensures.items ∙ sym (insert_end c.args.span xs c.requires.canonical (omega arith) c.requires.starts (λ n d e. elim c.if-count-gt0.branch [
      | then-count-gt0+else-le w ↦
          let at : c.len-count.result - 1 ≡ n = omega arith in
          let apart : w.hi.result < w.lo.result = gt_from_cmp _ _ (sym w.if-le.ensures) in
          let below : w.index-last.result.now.hi < c.args.span.lo = omega arith in
          subst (λ (t : Interval). t.hi < c.args.span.lo) (w.index-last.ensures ∙ ap (λ i. get_or xs i w.index-last.result.now) at ∙ get_or_default xs n w.index-last.result.now d (omega arith)) below
      | else-count-gt0 w ↦ absurd (omega arith)
    ]))
