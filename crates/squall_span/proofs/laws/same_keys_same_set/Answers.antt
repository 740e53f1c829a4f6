use Rattle.squall_span.specs.SpanLaws.{same_spans}
use Rattle.squall_span.proofs.laws.same_keys_same_set.Goals as goal

pub returns : goal.returns
returns c = same_spans
