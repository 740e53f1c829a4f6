use Rattle.std.proofs.Common.{◌≤◌, subst, arith}
use Rattle.squall_key.specs.Keys.{top}
use Rattle.squall_plan.specs.Ranges.{owner_of}
use Rattle.squall_table.proofs.Kept.{copied_one, copied}
use Rattle.squall_table.specs.LegLaws.{canonical_legs}
use Rattle.squall_table.proofs.legs.copy_legs.Goals as goal

pub returns-then-last-first : goal.returns-then-last-first
returns-then-last-first c = copied_one (owner_of c.args.legs.now) c.args.legs.now c.args.lo c.args.hi c.place_of-first.result c.end_of-last.result c.index-legs-first.result _ _ (canonical_legs _ c.requires.canonical) c.place_of-first.ensures c.end_of-last.ensures c.if-last-first.true c.index-legs-first.is c.in_ok-push_leg.ensures

pub returns : goal.returns
returns c =
    let high : c.args.hi ≤ top = subst (λ n. n ≤ top) c.rank-2.ensures.value c.rank-2.ensures.high in
    copied (owner_of c.args.legs.now) c.args.legs.now c.args.lo c.args.hi c.place_of-first.result c.end_of-last.result c.index-legs-first.result c.index-legs-last.result c.hi.result c.lo.result _ _ _ _ (canonical_legs _ c.requires.canonical) (omega arith) high c.place_of-first.ensures c.end_of-last.ensures (omega arith) c.index-legs-first.is c.hi.ensures.value c.index-legs-last.is c.lo.ensures.value c.in_ok-push_leg-2.ensures c.in_ok-extend_from_slice.ensures.items c.in_ok-push_leg-3.ensures
