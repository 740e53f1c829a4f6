use Rattle.std.proofs.Common.{◌∙◌, sym, ap, length}
use Rattle.squall_span.proofs.Changing.{entries_length}
use Rattle.squall_span.proofs.many.ManySpans.len.Goals as goal

pub returns : goal.returns
returns c = c.len.ensures ∙ sym (entries_length c.self.inside.ends) ∙ ap length c.self.view_is
