use Rattle.squall_report.specs.NewestLaws.{one_newest as the_law}
use Rattle.squall_report.proofs.laws.one_newest.Goals as goal

pub returns : goal.returns
returns c = the_law
