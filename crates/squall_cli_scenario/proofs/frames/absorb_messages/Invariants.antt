use Rattle.std.specs.Prelude.{map}
use Rattle.std.proofs.Common.{◌≡◌, drop}
use Rattle.squall_wire.specs.Messages.{body_of}
use Rattle.squall_cli_scenario.specs.Frames.{after_bodies}
use Rattle.squall_cli_scenario.proofs.frames.absorb_messages.Given as goal

abbrev pub invariant-loop-message : goal.invariant-loop-message
invariant-loop-message l = (l.router.first ≡ l.fn.router.first) × (after_bodies l.router.board (map body_of (drop l.message-index l.messages)) ≡ after_bodies l.fn.router.board (map body_of l.messages))
