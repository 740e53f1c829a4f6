use Rattle.squall_span.proofs.Counting.{count_is_total}
use Rattle.squall_span.proofs.laws.lengths_count_keys.Goals as goal

pub returns : goal.returns
returns c = count_is_total
