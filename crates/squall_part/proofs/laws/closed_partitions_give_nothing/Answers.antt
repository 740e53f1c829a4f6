use Rattle.squall_part.proofs.Closed.{closed_then, closed_newest, gives_nothing, gives_no_key}
use Rattle.squall_part.proofs.laws.closed_partitions_give_nothing.Goals as goal

pub returns-clause-chunks : goal.returns-clause-chunks
returns-clause-chunks c = λ most chunk q. gives_nothing c.args.part.now q most chunk

pub returns-clause-keys : goal.returns-clause-keys
returns-clause-keys c = λ k chunk q. gives_no_key c.args.part.now q k chunk

pub returns-clause-newest : goal.returns-clause-newest
returns-clause-newest c = closed_newest c.args.part.now c.known.ensures

pub returns-clause-all : goal.returns-clause-all
returns-clause-all c = λ n. closed_then c.args.part.now n c.known.ensures
