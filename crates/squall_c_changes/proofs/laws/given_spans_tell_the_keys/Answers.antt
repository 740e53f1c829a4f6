use Rattle.squall_c_changes.proofs.Spanning.{given_tell}
use Rattle.squall_c_changes.proofs.laws.given_spans_tell_the_keys.Goals as goal

pub returns : goal.returns
returns c = given_tell
