use Rattle.std.proofs.Common.{sym, ap, ◌∙◌, arith}
use Rattle.squall_span.specs.Stored.{spans_in}
use Rattle.squall_span.proofs.Beyond.{first_found, none_found}
use Rattle.squall_span.proofs.set.SpanSet.first_beyond.Goals as goal

pub returns-then-at-len-clause-value : goal.returns-then-at-len-clause-value
returns-then-at-len-clause-value c =
    first_found c.deref.result.now c.args.self.now c.in-Few.spans.items c.args.bound c.ended-at.result c.index.result.now c.deref.ensures.value (sym (ap spans_in c.in-Few.is) ∙ c.self.view_is) c.ended-at.ensures (omega arith) c.index.ensures

pub returns-else-at-len-clause-value : goal.returns-else-at-len-clause-value
returns-else-at-len-clause-value c =
    none_found c.deref.result.now c.args.self.now c.in-Few.spans.items c.args.bound c.ended-at.result c.deref.ensures.value (sym (ap spans_in c.in-Few.is) ∙ c.self.view_is) c.ended-at.ensures (omega arith)
