use Rattle.squall_course.proofs.Counted.{no_fewer, no_fewer_below, sub_splits}
use Rattle.squall_course.proofs.laws.no_fewer_subplans.Goals as goal

pub returns : goal.returns
returns c = record { used = no_fewer; below = no_fewer_below; reached = sub_splits }
