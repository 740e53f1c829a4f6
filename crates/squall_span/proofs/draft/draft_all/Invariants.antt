use Rattle.std.proofs.Common.{◌≡◌, ◌≤◌, ◌<◌, length, drop}
use Rattle.squall_span.specs.Spans.{IsSet, union}
use Rattle.squall_span.specs.Many.{spans_of}
use Rattle.squall_span.proofs.draft.draft_all.Given as goal

abbrev pub invariant-loop-at : goal.invariant-loop-at
invariant-loop-at l = record {
  within : l.at ≤ length l.spans;
  some : 0 < length l.draft.1;
  set : IsSet (spans_of l.draft.1);
  before : l.draft.0 ≡ l.initial.draft.0;
  value : spans_of l.draft.1 ≡ union (spans_of l.initial.draft.1) (drop l.at l.spans);
}

abbrev pub decreases-loop-at : goal.decreases-loop-at
decreases-loop-at l = l.at
