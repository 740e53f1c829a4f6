use Rattle.std.proofs.Common.{◌≡◌, arith}
use Rattle.squall_plan.specs.Ranges.{owner_of}
use Rattle.squall_table.proofs.Among.{among_one, fewer}
use Rattle.squall_table.specs.LegLaws.{canonical_legs}
use Rattle.squall_table.proofs.search.place_among.Goals as goal

pub returns-in-3 : goal.returns-in-3
returns-in-3 c = among_one (owner_of c.args.legs.now) c.args.key _ _ (canonical_legs _ c.requires.canonical) c.requires.below c.third.ensures

pub returns-in-2 : goal.returns-in-2
returns-in-2 c = among_one (owner_of c.args.legs.now) c.args.key _ _ (canonical_legs _ c.requires.canonical) c.requires.below c.half.ensures

pub returns-in_default : goal.returns-in_default
returns-in_default c =
    let m = c.loop-size.invariant in
    let one : c.loop-size.size ≡ 1 = omega arith in
    among_one (owner_of c.args.legs.now) c.args.key _ _ (canonical_legs _ c.requires.canonical) c.requires.below (fewer _ _ _ _ _ one m)
