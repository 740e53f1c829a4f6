use Rattle.std.proofs.Common.{◌≡◌, ◌++◌, ℕ, List, drop}
use Rattle.squall_cli_device.specs.States.{TookBytes, NoWriteFails}
use Rattle.squall_cli_ask.specs.Shown.{shown}
use Rattle.squall_cli_ask.proofs.shown.send_bytes.Given as goal

-- what was sent, and what is left to send, is all
abbrev pub invariant-loop-byte : goal.invariant-loop-byte
invariant-loop-byte g l = (said : List ℕ) × TookBytes (g.E.Sink.state l.fn.err) (g.E.Sink.state l.err) said
    × NoWriteFails (g.E.Sink.state l.fn.err) (g.E.Sink.state l.err) × (said ++ shown (drop l.byte-index l.bytes) ≡ shown l.bytes)
