use Rattle.squall_c_leaders.specs.Replay.{log_of}
use Rattle.squall_c_leaders.proofs.Replaying.{one_replay, logged}
use Rattle.squall_c_leaders.proofs.laws.leader_replay.Goals as goal

pub returns-clause-one : goal.returns-clause-one
returns-clause-one c = λ l m n calls. one_replay calls l m n

pub returns-clause-logged : goal.returns-clause-logged
returns-clause-logged c = λ l m tries. logged tries l m

pub returns-clause-rebuilt : goal.returns-clause-rebuilt
returns-clause-rebuilt c = λ l m n tries ran replayed. one_replay (log_of tries) l n m replayed (logged tries l m ran)
