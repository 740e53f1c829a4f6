use Rattle.squall_report.specs.QueriesLaws.{told_by_same}
use Rattle.squall_report.proofs.laws.queries_determine_told.Goals as goal

pub returns : goal.returns
returns c = told_by_same
