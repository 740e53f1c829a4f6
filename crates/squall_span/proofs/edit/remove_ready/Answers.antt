use Rattle.std.proofs.Common.{arith}
use Rattle.squall_span.proofs.Removing.{ends_in_order, removed_by}
use Rattle.squall_span.proofs.edit.remove_ready.Goals as goal

pub returns-clause-value : goal.returns-clause-value
returns-clause-value c =
    removed_by c.args.span c.args.spans.now.items c.deref-3.result.now c.trim.new.spans.items c.swap_for.new.spans.items c.ended-from.result c.ended-to.result c.lo-2.result c.hi-2.result c.head_of-head.result
    (ends_in_order c.deref.result.now c.deref-2.result.now c.args.spans.now.items c.lo.result c.hi.result c.ended-from.result c.ended-to.result c.deref.ensures.value c.deref-2.ensures.value (omega arith) c.ended-from.ensures c.ended-to.ensures) c.deref-3.ensures.value c.lo-2.ensures.value c.hi-2.ensures.value c.head_of-head.ensures c.trim.ensures.before c.trim.ensures.from c.swap_for.ensures.value
