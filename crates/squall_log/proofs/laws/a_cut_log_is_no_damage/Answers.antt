use Rattle.squall_log.specs.EntryLaws.{a_cut_log}
use Rattle.squall_log.proofs.laws.a_cut_log_is_no_damage.Goals as goal

pub returns : goal.returns
returns c = a_cut_log
