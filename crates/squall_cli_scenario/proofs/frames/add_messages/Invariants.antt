use Rattle.std.specs.Prelude.{string_bytes, map}
use Rattle.std.proofs.Common.{◌≡◌, ◌++◌, drop}
use Rattle.squall_wire.specs.Messages.{body_of}
use Rattle.squall_cli_scenario.specs.Frames.{heard_lines}
use Rattle.squall_cli_scenario.proofs.frames.add_messages.Given as goal

abbrev pub invariant-loop-message : goal.invariant-loop-message
invariant-loop-message l = string_bytes l.out ++ heard_lines (map body_of (drop l.message-index l.messages)) ≡ string_bytes l.fn.out ++ heard_lines (map body_of l.messages)
