use Rattle.std.proofs.Common.{arith}
use Rattle.squall_span.proofs.Removing.{head_past, head_at}
use Rattle.squall_span.proofs.edit.head_of.Goals as goal

pub returns-then-at-spans : goal.returns-then-at-spans
returns-then-at-spans c = head_at c.args.spans.now c.args.bound c.args.at c.lo.result c.index-spans-at.result c.new.result c.requires.set c.requires.ended (omega arith) c.index-spans-at.is c.lo.ensures.value c.new.ensures

pub returns-else-at-spans : goal.returns-else-at-spans
returns-else-at-spans c = head_past c.args.spans.now c.args.bound c.args.at c.requires.set c.requires.ended (omega arith)
