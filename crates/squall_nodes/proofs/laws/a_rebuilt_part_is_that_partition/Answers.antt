use Rattle.squall_nodes.proofs.Rebuilt.{rebuilt_stands}
use Rattle.squall_nodes.proofs.laws.a_rebuilt_part_is_that_partition.Goals as goal

pub returns : goal.returns
returns c = rebuilt_stands
