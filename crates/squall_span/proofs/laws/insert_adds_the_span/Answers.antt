use Rattle.squall_span.specs.SpanLaws.{set-insert, canonical-insert, has-insert}
use Rattle.squall_span.proofs.laws.insert_adds_the_span.Goals as goal

pub returns-clause-set : goal.returns-clause-set
returns-clause-set c = set-insert

pub returns-clause-canonical : goal.returns-clause-canonical
returns-clause-canonical c = canonical-insert

pub returns-clause-keys : goal.returns-clause-keys
returns-clause-keys c s a k p h = has-insert s a k p h
