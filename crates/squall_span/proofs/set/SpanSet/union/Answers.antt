use Rattle.squall_span.proofs.Made.{union_keys}
use Rattle.squall_span.proofs.set.SpanSet.union.Goals as goal

pub returns-then-are_few-clause-keys : goal.returns-then-are_few-clause-keys
returns-then-are_few-clause-keys c = union_keys c.args.self.now c.args.other.now c.with_few.result c.known.ensures c.known-2.ensures c.with_few.ensures

pub returns-else-are_few-clause-keys : goal.returns-else-are_few-clause-keys
returns-else-are_few-clause-keys c = union_keys c.args.self.now c.args.other.now c.merged.result c.known.ensures c.known-2.ensures c.merged.ensures
