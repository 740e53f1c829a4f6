use Rattle.squall_report.specs.QueriesLaws.{told_already}
use Rattle.squall_report.proofs.laws.told_joins_change_nothing.Goals as goal

pub returns : goal.returns
returns c = told_already
