use Rattle.squall_course.proofs.Counted.{sub_low}
use Rattle.squall_course.proofs.Tabled.{most_few}
use Rattle.squall_course.proofs.laws.subplans_at_most_partitions.Goals as goal

pub returns : goal.returns
returns c = record { count = λ old new. most_few old new old; keys = sub_low }
