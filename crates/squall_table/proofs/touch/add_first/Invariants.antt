use Rattle.std.proofs.Common.{◌≡◌, ℕ, take}
use Rattle.std.specs.Prelude.{◌||◌, ◌&&◌}
use Rattle.squall_span.specs.Spans.{has, span_has}
use Rattle.squall_table.specs.Touching.{brought}
use Rattle.squall_table.proofs.touch.add_first.Given as goal

abbrev pub invariant-loop-one : goal.invariant-loop-one
invariant-loop-one l = (k : ℕ) → has l.out k ≡ (has l.initial.out k || (span_has l.span k && brought l.sub l.part (take l.one-index l.moves) k))
