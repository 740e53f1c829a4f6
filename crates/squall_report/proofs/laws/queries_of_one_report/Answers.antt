use Rattle.squall_report.specs.QueriesLaws.{report_queries}
use Rattle.squall_report.proofs.laws.queries_of_one_report.Goals as goal

pub returns : goal.returns
returns c = report_queries
