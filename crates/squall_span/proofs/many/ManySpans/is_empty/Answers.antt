use Rattle.squall_span.proofs.Changing.{none_listed}
use Rattle.squall_span.proofs.many.ManySpans.is_empty.Goals as goal

pub returns : goal.returns
returns c = none_listed c.self.inside.ends c.args.self.now c.is_empty.result c.self.view_is c.is_empty.ensures
