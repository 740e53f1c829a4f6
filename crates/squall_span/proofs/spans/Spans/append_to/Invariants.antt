use Rattle.std.proofs.Common.{◌≡◌, ◌++◌}
use Rattle.squall_span.proofs.spans.Spans.append_to.Given as goal

abbrev pub invariant-loop-span : goal.invariant-loop-span
invariant-loop-span l = l.out.items ++ l.span-iterator ≡ l.fn.out.items ++ l.fn.self
