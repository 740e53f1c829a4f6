use Rattle.std.proofs.Common.{ap, arith}
use Rattle.squall_plan.specs.declared.range.PlanRange.{PlanRange}
use Rattle.squall_plan.specs.Ranges.{owner_of}
use Rattle.squall_table.specs.LegLaws.{canonical_legs}
use Rattle.squall_table.proofs.Ends.{ends_last, ends_before, some_legs}
use Rattle.squall_table.proofs.search.end_of.Goals as goal

pub returns-then-rank : goal.returns-then-rank
returns-then-rank c =
    let t = canonical_legs _ c.requires.canonical in
    let some = some_legs _ c.args.legs.now t in
    ends_last _ c.args.bound _ c.args.legs.now t (omega (arith, some)) (omega (arith, c.rank.ensures.value, c.rank.ensures.high, c.rank-2.ensures.value, c.if-rank.true))

pub returns : goal.returns
returns c =
    let ls = c.args.legs.now in
    let here = ap (λ (l : PlanRange). l.span.lo) c.index-legs-at.is in
    ends_before (owner_of ls) c.args.bound c.place_of-at.result ls c.index-legs-at.result (canonical_legs ls c.requires.canonical) c.place_of-at.ensures c.requires.above c.index-legs-at.is (omega (arith, here, c.lo.ensures.value, c.rank-3.ensures.value, c.rank-4.ensures.value, c.if-rank-2.false))
