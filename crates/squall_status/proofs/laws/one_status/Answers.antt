use Rattle.squall_status.proofs.Moved.{one_value}
use Rattle.squall_status.proofs.laws.one_status.Goals as goal

pub returns : goal.returns
returns c = one_value
