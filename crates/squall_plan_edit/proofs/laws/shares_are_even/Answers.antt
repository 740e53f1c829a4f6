use Rattle.squall_plan_edit.proofs.Even.{shares_even}
use Rattle.squall_plan_edit.proofs.laws.shares_are_even.Goals as goal

pub returns : goal.returns
returns c = λ units shares share some within. shares_even units shares share some within
