use Rattle.std.proofs.Common.{◌≡◌}
use Rattle.squall_span.specs.Spans.{spans_eq}
use Rattle.squall_span.proofs.walk.are_same.Given as goal

abbrev pub invariant-loop-span : goal.invariant-loop-span
invariant-loop-span l = spans_eq l.span-iterator l.rest ≡ spans_eq l.fn.first l.fn.second
