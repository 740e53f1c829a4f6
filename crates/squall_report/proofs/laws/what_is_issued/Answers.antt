use Rattle.squall_report.specs.ToldLaws.{what_is_issued}
use Rattle.squall_report.proofs.laws.what_is_issued.Goals as goal

pub returns : goal.returns
returns c = what_is_issued
