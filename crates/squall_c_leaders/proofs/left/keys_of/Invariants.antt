use Rattle.std.proofs.Common.{◌≡◌, ℕ, take}
use Rattle.squall_span.specs.Spans.{has}
use Rattle.squall_c_leaders.specs.LeftText.{lies_in, AreSpans}
use Rattle.squall_c_leaders.proofs.left.keys_of.Given as goal

abbrev pub invariant-loop-one : goal.invariant-loop-one
invariant-loop-one l = ((k : ℕ) → has l.keys k ≡ lies_in k (take l.one-index l.spans)) × AreSpans (take l.one-index l.spans)
