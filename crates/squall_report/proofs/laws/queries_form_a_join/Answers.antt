use Rattle.squall_report.specs.QueriesLaws.{queries_laws}
use Rattle.squall_report.proofs.laws.queries_form_a_join.Goals as goal

pub returns : goal.returns
returns c = queries_laws
