use Rattle.squall_course.proofs.Started.{first_by_bound}
use Rattle.squall_course.proofs.status.first_beyond.Goals as goal

pub returns : goal.returns
returns c = first_by_bound c.args.set.now c.args.from c.first_beyond.result c.first_beyond.ensures.set.0 c.first_beyond.ensures.value
