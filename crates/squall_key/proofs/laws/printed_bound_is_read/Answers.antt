use Rattle.squall_key.proofs.RoundTrip.{bound_of-text}
use Rattle.squall_key.proofs.laws.printed_bound_is_read.Goals as goal

pub returns : goal.returns
returns c = bound_of-text
