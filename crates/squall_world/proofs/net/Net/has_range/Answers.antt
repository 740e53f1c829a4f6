use Rattle.std.proofs.Common.{rules}
use Rattle.squall_world.proofs.Standing.{part_peer}
use Rattle.squall_world.proofs.Losing.{ranged}
use Rattle.squall_world.proofs.net.Net.has_range.Goals as goal

pub has_range-requires : goal.has_range-requires
has_range-requires c = part_peer c.args.self.now c.args.range.now.part c.in-Some.at c.index.result.now (search rules) (search rules)

pub returns : goal.returns
returns c = ranged c.args.self.now c.args.range.now c.in-Some.at c.index.result.now c.newest.result.now c.has_range.result (search rules) (search rules) c.newest.ensures c.has_range.ensures
