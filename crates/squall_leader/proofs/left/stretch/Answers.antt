use Rattle.std.proofs.Common.{sym, ◌∙◌, arith}
use Rattle.squall_key.specs.Lemmas.{ge_from_cmp}
use Rattle.squall_leader.proofs.Leaving.{none_beyond, gap_below, span_beyond, span_from}
use Rattle.squall_leader.proofs.left.stretch.Goals as goal

pub returns-in_default-clause-keys : goal.returns-in_default-clause-keys
returns-in_default-clause-keys c = λ k from below. none_beyond c.args.set.now c.args.at k (sym c.first_beyond.ensures.value ∙ c.in_default.is) from

pub returns-then-lt-clause-keys : goal.returns-then-lt-clause-keys
returns-then-lt-clause-keys c = λ k from below.
    gap_below c.args.set.now c.args.at k c.in-Some.span c.first_beyond.ensures.set (sym c.first_beyond.ensures.value ∙ c.in-Some.is) from (omega (arith, below, c.lo-then-lt.ensures.value))

pub returns-else-lt-clause-keys : goal.returns-else-lt-clause-keys
returns-else-lt-clause-keys c = λ k from below.
    let low = ge_from_cmp c.args.at c.lo.result (sym c.lt.ensures ∙ c.if-lt.false) in
    span_from c.args.set.now c.args.at k c.in-Some.span (sym c.first_beyond.ensures.value ∙ c.in-Some.is) (omega (arith, low, c.lo.ensures.value)) from (omega (arith, below, c.hi.ensures.value))

pub returns-else-lt-clause-beyond : goal.returns-else-lt-clause-beyond
returns-else-lt-clause-beyond c =
    let beyond = span_beyond c.args.set.now c.args.at c.in-Some.span (sym c.first_beyond.ensures.value ∙ c.in-Some.is) in omega (arith, beyond, c.hi.ensures.value)
