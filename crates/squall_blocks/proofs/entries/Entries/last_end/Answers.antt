use Rattle.std.proofs.Common.{arith}
use Rattle.squall_blocks.specs.EntriesLaws.{last_at}
use Rattle.squall_blocks.proofs.entries.Entries.last_end.Goals as goal

pub returns : goal.returns
returns g c = last_at 0 _ c.args.self.now c.at.result (omega (arith, c.requires)) c.at.ensures
