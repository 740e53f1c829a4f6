use Rattle.std.proofs.Common.{◌≡◌, ℕ, drop, ◌||◌}
use Rattle.squall_span.specs.Spans.{has}
use Rattle.squall_part.specs.Parts.{ranges_of}
use Rattle.squall_part.proofs.part.ranges_of.Given as goal

abbrev pub invariant-loop-range : goal.invariant-loop-range
invariant-loop-range l = (k : ℕ) → (has l.held k || has (ranges_of l.id (drop l.range-index l.range-items)) k) ≡ has (ranges_of l.id l.range-items) k
