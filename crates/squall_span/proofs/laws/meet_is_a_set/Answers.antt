use Rattle.squall_span.specs.SpanLaws.{set-meet, has-meet}
use Rattle.squall_span.proofs.laws.meet_is_a_set.Goals as goal

pub returns-clause-set : goal.returns-clause-set
returns-clause-set c = set-meet

pub returns-clause-keys : goal.returns-clause-keys
returns-clause-keys c = has-meet
