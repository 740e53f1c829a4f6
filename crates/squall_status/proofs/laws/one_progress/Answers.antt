use Rattle.squall_status.proofs.Progressed.{progress_is_one, progress_counts}
use Rattle.squall_status.proofs.laws.one_progress.Goals as goal

pub returns-clause-one : goal.returns-clause-one
returns-clause-one c = λ span come p q full x y. progress_is_one span come p q full x y

pub returns-clause-loaded : goal.returns-clause-loaded
returns-clause-loaded c = progress_counts
