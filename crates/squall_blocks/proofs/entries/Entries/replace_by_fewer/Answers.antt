use Rattle.std.proofs.Common.{ap, length, arith}
use Rattle.squall_blocks.proofs.Zips.{length-zip, zip-splice}
use Rattle.squall_blocks.proofs.entries.Entries.replace_by_fewer.Goals as goal

pub replace_ready-requires-clause-within : goal.replace_ready-requires-clause-within
replace_ready-requires-clause-within g c =
    omega (arith, c.requires.within, length-zip c.self.inside.ends.items c.self.inside.values.items c.self.invariant, ap length c.self.view_is)

pub replace_ready-requires-2-clause-within : goal.replace_ready-requires-2-clause-within
replace_ready-requires-2-clause-within g c =
    omega (arith, c.requires.within, c.self.invariant, length-zip c.self.inside.ends.items c.self.inside.values.items c.self.invariant, ap length c.self.view_is)

pub returns : goal.returns
returns g c =
    zip-splice c.self.inside.ends.items c.lists.result.0.now c.replace_ready.new.items.items c.self.inside.values.items c.lists.result.1.now c.replace_ready-2.new.items.items c.args.self.now c.args.fresh.now c.args.first c.args.end
    c.self.invariant c.self.view_is c.lists.ensures.ends c.lists.ensures.values c.lists.ensures.both c.replace_ready.ensures.items c.replace_ready-2.ensures.items
