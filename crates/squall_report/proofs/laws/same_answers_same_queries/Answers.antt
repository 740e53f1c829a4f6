use Rattle.squall_report.specs.QueriesLaws.{same_queries}
use Rattle.squall_report.proofs.laws.same_answers_same_queries.Goals as goal

pub returns : goal.returns
returns c = same_queries
