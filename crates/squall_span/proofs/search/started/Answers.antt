use Rattle.std.proofs.Common.{List, ap, ◌∙◌, arith}
use Rattle.std.proofs.lemmas.List.{get_or_default}
use Rattle.squall_span.specs.Spans.{Interval}
use Rattle.squall_span.proofs.Places.{started_at, started_past}
use Rattle.squall_span.proofs.search.started.Goals as goal
use Rattle.squall_span.proofs.search.started.Goals.{else-at-spans-via-then-at-spans+else-rank, else-at-spans-via-else-at-spans}

pub returns-then-rank : goal.returns-then-rank
returns-then-rank c =
    let xs : List Interval = c.args.spans.now in
    let i = c.ended-at.result in
    started_at xs c.args.bound i c.requires c.ended-at.ensures (omega (arith, c.if-at-spans.true)) (λ d.
    let same = ap (λ (t : Interval). t.lo) (c.index-spans-at.is ∙ get_or_default xs i c.index-spans-at.result d (omega (arith, c.if-at-spans.true))) in
    omega (arith, same, c.if-rank.true, c.rank.ensures.value, c.rank-then-at-spans.ensures.value, c.lo.ensures.value))

pub returns : goal.returns
returns c =
    let xs : List Interval = c.args.spans.now in
    let i = c.ended-at.result in
    elim c.else-at-spans.branch [
      | else-at-spans-via-then-at-spans+else-rank w ↦ started_past xs c.args.bound i c.requires c.ended-at.ensures (λ d fits.
          let same = ap (λ (t : Interval). t.lo) (w.index-spans-at.is ∙ get_or_default xs i w.index-spans-at.result d fits) in
          omega (arith, same, w.if-rank.false, w.rank.ensures.value, w.rank-then-at-spans.ensures.value, w.lo.ensures.value))
      | else-at-spans-via-else-at-spans w ↦ started_past xs c.args.bound i c.requires c.ended-at.ensures (λ d fits. absurd (omega (arith, fits, w.if-at-spans.false)))
    ]
