use Rattle.std.proofs.Common.{arith}
use Rattle.std.proofs.lemmas.Bool.Decides.{nat_tests}
use Rattle.squall_blocks.specs.Blocks.{flat}
use Rattle.squall_blocks.specs.EntriesLaws.{last_above, replaced_rises, rise_weaker}
use Rattle.squall_blocks.proofs.blocks.Blocks.replace.Goals as goal

pub cut-requires : goal.cut-requires
cut-requires g c = rise_weaker 0 c.args.from c.args.fresh.now (omega arith) c.requires.rise

pub places_of-at-requires-clause-some : goal.places_of-at-requires-clause-some
places_of-at-requires-clause-some g c = grind (arith, nat_tests)

pub places_of-at-requires-clause-order : goal.places_of-at-requires-clause-order
places_of-at-requires-clause-order g c = let up = last_above c.args.from c.args.fresh.now c.requires.rise in omega (arith, up, c.requires.last)

pub replace_at-requires-clause-rise : goal.replace_at-requires-clause-rise
replace_at-requires-clause-rise g c = replaced_rises c.args.from c.args.to c.args.fresh.now (flat c.self.inside.blocks.items) c.self.invariant.rise c.requires.rise c.requires.last
