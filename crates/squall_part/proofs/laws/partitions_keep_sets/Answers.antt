use Rattle.squall_part.proofs.Changed.{given_set, loaded_set}
use Rattle.squall_part.proofs.laws.partitions_keep_sets.Goals as goal

pub returns-clause-given : goal.returns-clause-given
returns-clause-given c = λ n. given_set c.args.part.now.logs n c.known.ensures.logs

pub returns-clause-loaded : goal.returns-clause-loaded
returns-clause-loaded c = λ n. loaded_set c.args.part.now.logs n c.known.ensures.logs
