use Rattle.squall_status.specs.TallyLaws.{join_within_sum}
use Rattle.squall_status.proofs.laws.a_join_is_within_the_sum.Goals as goal

pub returns : goal.returns
returns c = join_within_sum
