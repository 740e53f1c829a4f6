use Rattle.squall_report.specs.ToldLaws.{told_append}
use Rattle.squall_report.proofs.laws.append_tells_both.Goals as goal

pub returns : goal.returns
returns c = told_append
