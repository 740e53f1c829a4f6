use Rattle.squall_key.proofs.RoundTrip.{key_of-text}
use Rattle.squall_key.proofs.laws.printed_key_is_read.Goals as goal

pub returns : goal.returns
returns c = key_of-text
