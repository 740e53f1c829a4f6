use Rattle.squall_errand.proofs.Ended.{served_for_ever, lost_for_ever}
use Rattle.squall_errand.proofs.laws.ends_are_for_ever.Goals as goal

pub returns-clause-served : goal.returns-clause-served
returns-clause-served c = served_for_ever

pub returns-clause-lost : goal.returns-clause-lost
returns-clause-lost c = lost_for_ever
