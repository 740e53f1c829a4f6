use Rattle.std.proofs.Common.{◌≡◌, ◌+◌}
use Rattle.squall_span.specs.Spans.{total_length}
use Rattle.squall_span.proofs.set.SpanSet.count.Given as goal

abbrev pub invariant-loop-span : goal.invariant-loop-span
invariant-loop-span l = l.count + total_length l.span-iterator ≡ total_length l.self
