use Rattle.std.proofs.Common.{ℕ, ◌<◌}
use Rattle.squall_protocol.specs.declared.event.Node.TheVariants.{Router}
use Rattle.squall_protocol.specs.Worlds.{most_routers}
use Rattle.squall_judge.specs.Entries.{IsLogAt}
use Rattle.squall_cli_audit.proofs.cause.first_stray.Given as goal

abbrev pub invariant-loop-at : goal.invariant-loop-at
invariant-loop-at l = (i r : ℕ) → i < l.at → IsLogAt l.fn.logs i (Router r) → r < most_routers
