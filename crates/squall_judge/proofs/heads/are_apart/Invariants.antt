use Rattle.std.proofs.Common.{ℕ, ◌<◌}
use Rattle.squall_protocol.specs.declared.event.Node.{Node}
use Rattle.squall_judge.specs.Entries.{IsLogAt}
use Rattle.squall_judge.proofs.heads.are_apart.Given as goal

abbrev pub invariant-loop-at : goal.invariant-loop-at
invariant-loop-at l = (i j : ℕ) (m : Node) → i < j → j < l.at → IsLogAt l.fn.logs i m → IsLogAt l.fn.logs j m → ⊥
