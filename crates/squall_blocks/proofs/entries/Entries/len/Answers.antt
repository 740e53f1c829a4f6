use Rattle.std.proofs.Common.{ap, length, arith}
use Rattle.squall_blocks.proofs.Zips.{length-zip}
use Rattle.squall_blocks.proofs.entries.Entries.len.Goals as goal

pub returns : goal.returns
returns g c = omega (arith, c.len.ensures, length-zip c.self.inside.ends.items c.self.inside.values.items c.self.invariant, ap length c.self.view_is)
