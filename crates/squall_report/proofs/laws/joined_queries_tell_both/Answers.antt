use Rattle.squall_report.specs.QueriesLaws.{told_by_joined}
use Rattle.squall_report.proofs.laws.joined_queries_tell_both.Goals as goal

pub returns : goal.returns
returns c = told_by_joined
