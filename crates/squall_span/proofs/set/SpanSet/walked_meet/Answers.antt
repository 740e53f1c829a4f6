use Rattle.std.proofs.Common.{◌∙◌}
use Rattle.squall_span.proofs.Made.{made_meet, meet_set}
use Rattle.squall_span.proofs.set.SpanSet.walked_meet.Goals as goal

pub of_spans-requires : goal.of_spans-requires
of_spans-requires c = meet_set c.args.self.now c.args.other.now c.in_ok-spans.spans.items c.known.ensures c.known-2.ensures c.in_ok-spans.ensures.canonical c.in_ok-spans.ensures.keys

pub returns : goal.returns
returns c = c.of_spans.ensures ∙ made_meet c.args.self.now c.args.other.now c.in_ok-spans.spans.items c.known.ensures c.known-2.ensures c.in_ok-spans.ensures.canonical c.in_ok-spans.ensures.keys
