use Rattle.squall_replay.proofs.Same.{one_log, one_lead}
use Rattle.squall_replay.proofs.laws.one_partition.Goals as goal

pub returns-clause-answers : goal.returns-clause-answers
returns-clause-answers c = λ p q r s calls xs ys is js same h g. (one_log p q r s calls xs ys is js same h g).0

pub returns-clause-partition : goal.returns-clause-partition
returns-clause-partition c = λ p q r s calls xs ys is js same h g. (one_log p q r s calls xs ys is js same h g).1

pub returns-clause-rebuilt : goal.returns-clause-rebuilt
returns-clause-rebuilt c = one_lead
