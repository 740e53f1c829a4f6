use Rattle.std.proofs.Common.{◌-◌, List, ap, ◌∙◌, arith}
use Rattle.std.proofs.lemmas.List.{get_or_default}
use Rattle.squall_span.specs.Spans.{Interval}
use Rattle.squall_span.proofs.Places.{apart_at, apart_past}
use Rattle.squall_span.proofs.search.apart.Goals as goal
use Rattle.squall_span.proofs.search.apart.Goals.{else-at-gt0-via-then-at-gt0+else-rank, else-at-gt0-via-else-at-gt0}

pub returns-then-rank : goal.returns-then-rank
returns-then-rank c =
    let xs : List Interval = c.args.spans.now in
    let i = c.ended-at.result in
    apart_at xs c.args.bound i c.requires c.ended-at.ensures c.if-at-gt0.true (λ d.
    let same = ap (λ (t : Interval). t.hi) (c.index-spans-at.is ∙ get_or_default xs (i - 1) c.index-spans-at.result d (omega (arith, c.if-at-gt0.true, c.ended-at.ensures.within))) in
    omega (arith, same, c.if-rank.true, c.rank.ensures.value, c.rank-then-at-gt0.ensures.value, c.hi.ensures.value))

pub returns : goal.returns
returns c =
    let xs : List Interval = c.args.spans.now in
    let i = c.ended-at.result in
    elim c.else-at-gt0.branch [
      | else-at-gt0-via-then-at-gt0+else-rank w ↦ apart_past xs c.args.bound i c.requires c.ended-at.ensures (λ d some.
          let same = ap (λ (t : Interval). t.hi) (w.index-spans-at.is ∙ get_or_default xs (i - 1) w.index-spans-at.result d (omega (arith, some, c.ended-at.ensures.within))) in
          omega (arith, same, w.if-rank.false, w.rank.ensures.value, w.rank-then-at-gt0.ensures.value, w.hi.ensures.value))
      | else-at-gt0-via-else-at-gt0 w ↦ apart_past xs c.args.bound i c.requires c.ended-at.ensures (λ d some. absurd (omega (arith, some, w.if-at-gt0.false)))
    ]
