use Rattle.squall_plan_edit.proofs.Given.{last_decides}
use Rattle.squall_plan_edit.proofs.laws.the_last_range_decides.Goals as goal

pub returns : goal.returns
returns c = λ given old last k. last_decides given old last k
