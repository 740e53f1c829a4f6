use Rattle.squall_course.proofs.Counted.{key_goes}
use Rattle.squall_course.proofs.laws.keys_go_to_destinations.Goals as goal

pub returns : goal.returns
returns c = key_goes
