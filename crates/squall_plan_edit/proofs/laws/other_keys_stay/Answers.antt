use Rattle.squall_plan_edit.proofs.Given.{others_stay}
use Rattle.squall_plan_edit.proofs.laws.other_keys_stay.Goals as goal

pub returns : goal.returns
returns c = others_stay
