use Rattle.squall_report.specs.OpeningsLaws.{openings_count as the_law}
use Rattle.squall_report.proofs.laws.openings_count.Goals as goal

pub returns : goal.returns
returns c = the_law
