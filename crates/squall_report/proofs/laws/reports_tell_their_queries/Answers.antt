use Rattle.squall_report.specs.QueriesLaws.{report_told_by_queries}
use Rattle.squall_report.proofs.laws.reports_tell_their_queries.Goals as goal

pub returns : goal.returns
returns c = report_told_by_queries
