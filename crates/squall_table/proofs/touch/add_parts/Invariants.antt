use Rattle.std.proofs.Common.{◌≡◌, ℕ, take}
use Rattle.std.specs.Prelude.{◌||◌}
use Rattle.squall_span.specs.Spans.{has}
use Rattle.squall_table.specs.Touching.{touched_by_parts}
use Rattle.squall_table.proofs.touch.add_parts.Given as goal

abbrev pub invariant-loop-entry : goal.invariant-loop-entry
invariant-loop-entry l = (k : ℕ) → has l.out k ≡ (has l.initial.out k || touched_by_parts l.moves l.sub (take l.entry-index l.parts) k)
