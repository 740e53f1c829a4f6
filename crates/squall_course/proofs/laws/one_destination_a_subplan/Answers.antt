use Rattle.squall_course.proofs.Counted.{one_dest}
use Rattle.squall_course.proofs.laws.one_destination_a_subplan.Goals as goal

pub returns : goal.returns
returns c = one_dest
