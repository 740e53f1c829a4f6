use Rattle.std.proofs.Common.{◌≡◌, ℕ}
use Rattle.std.specs.Prelude.{◌||◌, ◌&&◌}
use Rattle.squall_span.specs.Spans.{has}
use Rattle.squall_table.specs.Touching.{brought}
use Rattle.squall_table.proofs.touch.add_spans.Given as goal

abbrev pub invariant-loop-span : goal.invariant-loop-span
invariant-loop-span l = (k : ℕ) → (has l.out k || (has l.span-iterator k && brought l.sub l.part l.moves k)) ≡ (has l.initial.out k || (has l.fn.spans k && brought l.sub l.part l.moves k))
