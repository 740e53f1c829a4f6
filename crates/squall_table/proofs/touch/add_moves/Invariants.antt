use Rattle.std.proofs.Common.{◌≡◌, ℕ, take}
use Rattle.std.specs.Prelude.{◌||◌}
use Rattle.squall_span.specs.Spans.{has}
use Rattle.squall_table.specs.Touching.{brought}
use Rattle.squall_table.proofs.touch.add_moves.Given as goal

abbrev pub invariant-loop-one : goal.invariant-loop-one
invariant-loop-one l = (k : ℕ) → has l.out k ≡ (has l.initial.out k || brought l.sub l.part (take l.one-index l.moves) k)
