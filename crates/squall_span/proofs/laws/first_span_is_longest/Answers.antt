use Rattle.squall_span.specs.SpanLaws.{first_span_is}
use Rattle.squall_span.proofs.laws.first_span_is_longest.Goals as goal

pub returns : goal.returns
returns c a s h = first_span_is a s h.0
