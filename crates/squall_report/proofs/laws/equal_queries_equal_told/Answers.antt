use Rattle.squall_report.specs.QueriesLaws.{same_told_lists}
use Rattle.squall_report.proofs.laws.equal_queries_equal_told.Goals as goal

pub returns : goal.returns
returns c = same_told_lists
