use Rattle.squall_course.proofs.Unique.{one_list}
use Rattle.squall_course.proofs.laws.one_list_of_moves.Goals as goal

pub returns : goal.returns
returns c = one_list
