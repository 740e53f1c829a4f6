use Rattle.std.proofs.Common.{◌≡◌, ℕ, length, get_or, drop, false, ◌||◌}
use Rattle.squall_key.specs.Keys.{part_limit}
use Rattle.squall_plan.specs.Ranges.{names}
use Rattle.squall_world.proofs.naming.mark.Given as goal

-- what is marked so far and the ranges to come make the marks of all
abbrev pub invariant-loop-range : goal.invariant-loop-range
invariant-loop-range l = (length l.named ≡ part_limit) × ((p : ℕ) → (get_or l.named p false || names (drop l.range-index l.range-items) p) ≡ (get_or l.initial.named p false || names l.range-items p))
