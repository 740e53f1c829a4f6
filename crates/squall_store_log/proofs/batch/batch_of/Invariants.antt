use Rattle.std.proofs.Common.{◌≡◌, ℕ, ◌≤◌, drop, length}
use Rattle.squall_store.specs.Memory.{value_at}
use Rattle.squall_store_log.proofs.batch.batch_of.Given as goal

-- the batch has the rows that were reached
abbrev pub invariant-loop-at : goal.invariant-loop-at
invariant-loop-at l = record { within : l.at ≤ length l.rows; rows : (k : ℕ) → value_at l.batch k ≡ value_at (drop l.at l.rows) k }

abbrev pub decreases-loop-at : goal.decreases-loop-at
decreases-loop-at l = l.at
