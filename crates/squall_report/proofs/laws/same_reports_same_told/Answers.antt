use Rattle.squall_report.specs.ToldLaws.{told_same}
use Rattle.squall_report.proofs.laws.same_reports_same_told.Goals as goal

pub returns : goal.returns
returns c = told_same
