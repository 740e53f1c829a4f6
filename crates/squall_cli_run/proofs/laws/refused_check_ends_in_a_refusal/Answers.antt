use Rattle.squall_cli_run.proofs.Outputs.{refused_check, fine_check}
use Rattle.squall_cli_run.proofs.laws.refused_check_ends_in_a_refusal.Goals as goal

pub returns : goal.returns
returns c = record { refused = refused_check; fine = fine_check }
