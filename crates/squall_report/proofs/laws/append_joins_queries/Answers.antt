use Rattle.squall_report.specs.QueriesLaws.{queries_append}
use Rattle.squall_report.proofs.laws.append_joins_queries.Goals as goal

pub returns : goal.returns
returns c = queries_append
