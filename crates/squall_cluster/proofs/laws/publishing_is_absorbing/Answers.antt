use Rattle.std.proofs.Common.{refl}
use Rattle.squall_cluster.proofs.Joined.{absorbs}
use Rattle.squall_cluster.proofs.laws.publishing_is_absorbing.Goals as goal

pub returns-clause-absorbed : goal.returns-clause-absorbed
returns-clause-absorbed c first opening published letter = absorbs first opening published letter

pub returns-clause-route : goal.returns-clause-route
returns-clause-route c first opening seen k = refl
