use Rattle.std.proofs.Common.{arith, sym, ◌∙◌}
use Rattle.squall_key.specs.Lemmas.{ge_from_cmp}
use Rattle.squall_course.proofs.Started.{complete}
use Rattle.squall_course.proofs.status.Status.of.Goals as goal

pub returns : goal.returns
returns c =
    let low = ge_from_cmp c.lo-3.result c.lo-4.result (sym c.lt.ensures ∙ c.if-lt.false) in
    let high = ge_from_cmp c.hi-else-lt.result c.hi-else-lt-2.result (sym c.lt-else-lt.ensures ∙ c.if-lt-2.false) in
    complete c.args.span.now c.in-Some.first c.args.set.now (rw c.lo.ensures.value at c.in-Some.ensures)
    (omega (arith, low, c.lo-3.ensures.value, c.lo-4.ensures.value)) (omega (arith, high, c.hi-else-lt.ensures.value, c.hi-else-lt-2.ensures.value))
