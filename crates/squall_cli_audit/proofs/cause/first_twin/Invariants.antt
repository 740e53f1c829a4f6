use Rattle.std.proofs.Common.{ℕ, ◌<◌}
use Rattle.squall_protocol.specs.declared.event.Node.{Node}
use Rattle.squall_judge.specs.Entries.{IsLogAt}
use Rattle.squall_cli_audit.proofs.cause.first_twin.Given as goal

abbrev pub invariant-loop-at : goal.invariant-loop-at
invariant-loop-at l = (i k : ℕ) (m : Node) → i < k → k < l.at → IsLogAt l.fn.logs i m → IsLogAt l.fn.logs k m → ⊥
