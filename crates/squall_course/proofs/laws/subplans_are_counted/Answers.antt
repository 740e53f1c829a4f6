use Rattle.squall_course.proofs.Counted.{sub_counted}
use Rattle.squall_course.proofs.laws.subplans_are_counted.Goals as goal

pub returns : goal.returns
returns c = sub_counted
