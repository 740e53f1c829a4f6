use Rattle.std.specs.Prelude.{string_bytes}
use Rattle.std.proofs.Common.{◌≡◌, [], length}
use Rattle.squall_cli_device.specs.States.{NoWriteFails}
use Rattle.squall_cli_lines.proofs.Bytes.{IsReading}
use Rattle.squall_cli_lines.proofs.Outcomes.{Reading}
use Rattle.squall_cli_lines.proofs.run.Given as goal

abbrev pub invariant-loop-turn : goal.invariant-loop-turn
invariant-loop-turn g l = record {
  reading : Reading (g.M.Machine.plays l.fn.machine) (g.M.Machine.plays l.machine) (g.S.Source.state l.fn.reader) (g.S.Source.state l.reader) (g.K.Sink.state l.fn.writer) (g.K.Sink.state l.writer) l.carry.items;
  out : (string_bytes l.out) ≡ [];
  room : length l.block ≡ 65536;
  reads : IsReading l.turn (g.S.Source.state l.fn.reader) (g.S.Source.state l.reader);
  kept : NoWriteFails (g.K.Sink.state l.fn.writer) (g.K.Sink.state l.writer);
}
