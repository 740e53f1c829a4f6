use Rattle.squall_span.specs.SpanLaws.{set-union, canonical-union, has-union}
use Rattle.squall_span.proofs.laws.union_has_both.Goals as goal

pub returns-clause-set : goal.returns-clause-set
returns-clause-set c = set-union

pub returns-clause-canonical : goal.returns-clause-canonical
returns-clause-canonical c = canonical-union

pub returns-clause-keys : goal.returns-clause-keys
returns-clause-keys c = has-union
