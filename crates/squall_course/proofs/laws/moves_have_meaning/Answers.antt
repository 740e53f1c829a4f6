use Rattle.squall_course.proofs.Moved.{are_moves}
use Rattle.squall_course.proofs.laws.moves_have_meaning.Goals as goal

pub returns : goal.returns
returns c = λ old new plans. are_moves old new plans.old_canonical plans.new_canonical
