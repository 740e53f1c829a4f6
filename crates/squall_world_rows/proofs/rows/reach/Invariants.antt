use Rattle.std.proofs.Common.{◌≡◌, ◌+◌, ◌-◌, ℕ, vec_len}
use Rattle.squall_world_rows.specs.Seen.{stored_in}
use Rattle.squall_world_rows.proofs.rows.reach.Given as goal

-- no key has another row
abbrev pub invariant-loop-alloc : goal.invariant-loop-alloc
invariant-loop-alloc l = (p k : ℕ) → stored_in l.rows.items p k ≡ stored_in l.fn.rows.items p k

abbrev pub decreases-loop-alloc : goal.decreases-loop-alloc
decreases-loop-alloc l = (l.part + 1) - vec_len l.rows
