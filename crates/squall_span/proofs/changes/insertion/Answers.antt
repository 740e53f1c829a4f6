use Rattle.std.proofs.Common.{◌-◌, [], ◌∷◌, sym, subst, ap, ◌∙◌, arith}
use Rattle.squall_span.specs.Spans.{Interval}
use Rattle.std.specs.Prelude.{slice_get}
use Rattle.squall_blocks.specs.Entries.{RiseFrom, beyond}
use Rattle.squall_span.proofs.Changing.{start_by, end_from, inserted_is}
use Rattle.squall_span.proofs.changes.insertion.Goals as goal

pub between-requires : goal.between-requires
between-requires c =
    let low = start_by c.args.span (slice_get (beyond c.bound_before-from.result c.args.there.now) 0) in
    let high = end_from c.args.span c.args.there.now in
    omega (arith, low, high, c.start_with-lo.ensures, c.end_with-to.ensures, c.lo.ensures.below)

pub returns-clause-rise : goal.returns-clause-rise
returns-clause-rise c =
    let high = end_from c.args.span c.args.there.now in
    let to = ap (λ (s : Interval). s.hi) c.between.ensures in
    subst (RiseFrom c.bound_before-from.result) (sym (c.in_ok-fresh.ensures)) (omega (arith, high, to, c.end_with-to.ensures, c.bound_before-from.ensures, c.lo.ensures.value, c.lo.ensures.below), tt)

pub returns-clause-value : goal.returns-clause-value
returns-clause-value c =
    let is = c.in_ok-fresh.ensures ∙ ap (λ (s : Interval). (s.hi, s.lo) ∷ []) c.between.ensures in
    inserted_is c.args.span c.args.there.now c.in_ok-fresh.fresh c.bound_before-from.result c.start_with-lo.result c.end_with-to.result (omega (arith, c.lo.ensures.value, c.lo.ensures.below)) c.requires.0
    (c.bound_before-from.ensures ∙ ap (λ n. n - 1) c.lo.ensures.value) c.start_with-lo.ensures c.end_with-to.ensures is
