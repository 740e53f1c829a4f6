use Rattle.std.proofs.Common.{◌-◌}
use Rattle.squall_blocks.proofs.Zips.{zip-part}
use Rattle.squall_blocks.proofs.entries.Entries.part.Goals as goal

pub returns : goal.returns
returns g c = zip-part c.lists.result.0.now c.in_ok-ends.ends.items c.lists.result.1.now c.in_ok-values.values.items c.args.self.now (c.args.to - c.args.from) c.args.from c.lists.ensures.both c.in_ok-ends.ensures.items c.in_ok-values.ensures.items
