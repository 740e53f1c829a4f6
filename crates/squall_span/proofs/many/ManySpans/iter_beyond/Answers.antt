use Rattle.std.proofs.Common.{◌∙◌, ap}
use Rattle.squall_span.specs.Spans.{spans_beyond}
use Rattle.squall_span.specs.Many.{spans_of}
use Rattle.squall_span.proofs.Changing.{spans_beyond_is}
use Rattle.squall_span.proofs.many.ManySpans.iter_beyond.Goals as goal

pub returns : goal.returns
returns c = ap spans_of c.iter_from.ensures ∙ spans_beyond_is c.args.bound c.self.inside.ends ∙ ap (spans_beyond c.args.bound) c.self.view_is
