use Rattle.squall_course.proofs.Counted.{fed}
use Rattle.squall_course.proofs.laws.feeds_where_keys_go.Goals as goal

pub returns : goal.returns
returns c = fed
