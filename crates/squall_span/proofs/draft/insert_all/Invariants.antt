use Rattle.std.proofs.Common.{◌≡◌, ◌≤◌, ◌+◌, length, drop, vec_len, vec_capacity}
use Rattle.squall_span.specs.Spans.{IsSet, union}
use Rattle.squall_span.proofs.draft.insert_all.Given as goal

abbrev pub invariant-loop-at : goal.invariant-loop-at
invariant-loop-at l = record {
  within : l.at ≤ length l.spans;
  room : vec_len l.list + l.at ≤ vec_capacity l.list;
  set : IsSet l.list.items;
  value : l.list.items ≡ union l.initial.list.items (drop l.at l.spans);
}

abbrev pub decreases-loop-at : goal.decreases-loop-at
decreases-loop-at l = l.at
