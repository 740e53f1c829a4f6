use Rattle.squall_cli_run.proofs.Outputs.{refused_course, fine_course}
use Rattle.squall_cli_run.proofs.laws.refused_course_ends_in_a_refusal.Goals as goal

pub returns : goal.returns
returns c = record { refused = refused_course; fine = fine_course }
