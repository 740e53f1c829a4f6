use Rattle.squall_report.specs.NewestLaws.{newest_of_reports as the_law}
use Rattle.squall_report.proofs.laws.newest_of_reports.Goals as goal

pub returns : goal.returns
returns c = the_law
