use Rattle.squall_report.specs.QueriesLaws.{told_by_its_queries}
use Rattle.squall_report.proofs.laws.list_tells_its_queries.Goals as goal

pub returns : goal.returns
returns c = told_by_its_queries
