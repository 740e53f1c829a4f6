use Rattle.squall_store_log.specs.RecordLaws.{one_record}
use Rattle.squall_store_log.proofs.laws.one_record.Goals as goal

pub returns : goal.returns
returns c = one_record
