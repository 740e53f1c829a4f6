use Rattle.std.proofs.Common.{◌≡◌, ◌+◌, drop}
use Rattle.squall_cli_events.specs.EventLines.{first_length}
use Rattle.squall_cli_events.proofs.texts.first_length.Given as goal

abbrev pub invariant-loop-i : goal.invariant-loop-i
invariant-loop-i l = l.i + first_length (drop l.i l.text) ≡ first_length l.text
