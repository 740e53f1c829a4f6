use Rattle.squall_replay.proofs.Alike.{reply_alike}
use Rattle.squall_replay.proofs.laws.same_partitions_reply_alike.Goals as goal

pub returns : goal.returns
returns c = λ p q k after x y. reply_alike p q k after x y
