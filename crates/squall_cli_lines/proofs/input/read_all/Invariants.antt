use Rattle.std.proofs.Common.{◌≡◌, length}
use Rattle.squall_cli_device.specs.States.{GaveBytes}
use Rattle.squall_cli_lines.proofs.Bytes.{IsReading}
use Rattle.squall_cli_lines.proofs.input.read_all.Given as goal

abbrev pub invariant-loop-turn : goal.invariant-loop-turn
invariant-loop-turn g l = record {
  bytes : GaveBytes (g.S.Source.state l.fn.source) (g.S.Source.state l.source) l.bytes.items;
  room : length l.block ≡ 65536;
  reads : IsReading l.turn (g.S.Source.state l.fn.source) (g.S.Source.state l.source);
}
