use Rattle.squall_replay.proofs.Ran.{logged, rebuilt}
use Rattle.squall_replay.proofs.laws.part_replay.Goals as goal

pub returns-clause-logged : goal.returns-clause-logged
returns-clause-logged c = logged

pub returns-clause-rebuilt : goal.returns-clause-rebuilt
returns-clause-rebuilt c = rebuilt
