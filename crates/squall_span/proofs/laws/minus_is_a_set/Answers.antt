use Rattle.squall_span.specs.SpanLaws.{set-minus, has-minus}
use Rattle.squall_span.proofs.laws.minus_is_a_set.Goals as goal

pub returns-clause-set : goal.returns-clause-set
returns-clause-set c = set-minus

pub returns-clause-keys : goal.returns-clause-keys
returns-clause-keys c = has-minus
