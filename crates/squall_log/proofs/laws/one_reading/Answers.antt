use Rattle.squall_log.specs.EntryLaws.{one_reading}
use Rattle.squall_log.proofs.laws.one_reading.Goals as goal

pub returns : goal.returns
returns c = one_reading
