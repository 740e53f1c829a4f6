use Rattle.std.proofs.Common.{◌≡◌, ◌≤◌, length, drop}
use Rattle.squall_span.specs.Spans.{union}
use Rattle.squall_span.proofs.set.SpanSet.insert_each.Given as goal

abbrev pub invariant-loop-at : goal.invariant-loop-at
invariant-loop-at l = record {
  within : l.at ≤ length l.spans;
  value : l.self ≡ union l.initial.self (drop l.at l.spans);
}

abbrev pub decreases-loop-at : goal.decreases-loop-at
decreases-loop-at l = l.at
