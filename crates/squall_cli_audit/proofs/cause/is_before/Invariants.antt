use Rattle.std.proofs.Common.{ℕ, ◌<◌}
use Rattle.squall_judge.specs.Entries.{IsLogAt}
use Rattle.squall_cli_audit.proofs.cause.is_before.Given as goal

abbrev pub invariant-loop-at : goal.invariant-loop-at
invariant-loop-at l = (i : ℕ) → i < l.at → IsLogAt l.fn.logs i l.fn.node → ⊥
