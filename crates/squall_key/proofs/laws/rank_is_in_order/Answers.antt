use Rattle.squall_key.proofs.RoundTrip.{rank_order}
use Rattle.squall_key.proofs.laws.rank_is_in_order.Goals as goal

pub returns : goal.returns
returns c = rank_order
