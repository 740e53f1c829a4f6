use Rattle.squall_span.proofs.Equality.{spans_eq-exact}
use Rattle.squall_span.proofs.laws.equality_is_exact.Goals as goal

pub returns : goal.returns
returns c = spans_eq-exact
