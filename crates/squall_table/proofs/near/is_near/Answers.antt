use Rattle.std.proofs.Common.{◌≤◌, sym, ◌∙◌, arith}
use Rattle.squall_span.specs.Spans.{interval}
use Rattle.squall_table.proofs.About.{near_first, le_of}
use Rattle.squall_table.proofs.near.is_near.Goals as goal

pub returns-then-rank : goal.returns-then-rank
returns-then-rank c test =
    let upto : c.args.lo ≤ c.in-Some.span.hi = le_of c.rank-then-rank.result c.rank-then-rank-2.result c.args.lo c.in-Some.span.hi test c.rank-then-rank.ensures.value (c.rank-then-rank-2.ensures.value ∙ c.hi.ensures.value) in
    let from : c.in-Some.span.lo ≤ c.args.hi = omega (arith, c.if-rank.true, c.rank.ensures.value, c.rank-2.ensures.value, c.lo.ensures.value) in
    near_first c.args.set.now c.bound_before.result c.in-Some.span (interval c.args.lo c.args.hi) (sym c.first_beyond.ensures.value ∙ c.in-Some.is) (omega (arith, c.lo.ensures.value, c.lo.ensures.below)) c.requires.order from upto
