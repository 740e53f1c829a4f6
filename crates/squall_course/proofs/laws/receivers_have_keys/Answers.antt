use Rattle.squall_course.proofs.Received.{receiver_keys}
use Rattle.squall_course.proofs.laws.receivers_have_keys.Goals as goal

pub returns : goal.returns
returns c = receiver_keys
