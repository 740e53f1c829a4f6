use Rattle.squall_log.specs.EntryLaws.{one_entry}
use Rattle.squall_log.proofs.laws.one_entry.Goals as goal

pub returns : goal.returns
returns c = one_entry
