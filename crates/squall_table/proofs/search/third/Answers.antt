use Rattle.std.proofs.Common.{◌+◌, arith}
use Rattle.squall_plan.specs.Ranges.{owner_of}
use Rattle.squall_table.specs.LegLaws.{canonical_legs}
use Rattle.squall_table.proofs.Among.{starts_as, third}
use Rattle.squall_table.proofs.search.third.Goals as goal

pub returns : goal.returns
returns c =
    let ls = c.args.legs.now in
    third (owner_of ls) ls c.args.key c.args.base c.args.size c.args.step _ _ c.back.result c.back-2.result c.index-legs-first.result (canonical_legs ls c.requires.canonical) c.requires.among c.requires.some c.requires.parts (starts_as ls (c.args.base + c.args.step) c.index-legs-first.result c.lo.result (omega (arith, c.requires.among.within)) c.index-legs-first.is c.lo.ensures.value) (starts_as ls (c.args.base + c.args.step + c.args.step) c.index-legs-second.result c.lo-2.result (omega (arith, c.requires.among.within)) c.index-legs-second.is c.lo-2.ensures.value) (record { beyond = c.back.ensures.beyond; before = c.back.ensures.before }) (record { beyond = c.back-2.ensures.beyond; before = c.back-2.ensures.before })
