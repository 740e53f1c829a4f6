use Rattle.squall_course.proofs.Counted.{moves_counted}
use Rattle.squall_course.proofs.laws.moves_in_counted_subplans.Goals as goal

pub returns : goal.returns
returns c = moves_counted
