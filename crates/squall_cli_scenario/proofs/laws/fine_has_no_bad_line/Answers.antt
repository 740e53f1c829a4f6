use Rattle.squall_cli_scenario.proofs.Refusals.{fine_lacks, fine_ends, fine_counts}
use Rattle.squall_cli_scenario.proofs.laws.fine_has_no_bad_line.Goals as goal

pub returns : goal.returns
returns c = record { none = fine_lacks; last = fine_ends; answered = fine_counts }
