use Rattle.std.specs.Prelude.{string_bytes}
use Rattle.std.proofs.Common.{◌++◌, length}
use Rattle.squall_cli_device.specs.States.{NoWriteFails}
use Rattle.squall_cli_lines.proofs.Turns.{Turn}
use Rattle.squall_cli_lines.proofs.block.take_block.Given as goal

abbrev pub invariant-loop-line : goal.invariant-loop-line
invariant-loop-line g l = record {
  turn : Turn (g.M.Machine.plays l.fn.machine) (g.M.Machine.plays l.machine) (g.K.Sink.state l.fn.writer).contents (g.K.Sink.state l.writer).contents (l.fn.carry.items ++ l.block) (l.carry.items ++ l.rest) (string_bytes l.out) l.carry.items;
  kept : NoWriteFails (g.K.Sink.state l.fn.writer) (g.K.Sink.state l.writer);
}

abbrev pub decreases-loop-line : goal.decreases-loop-line
decreases-loop-line g l = length l.rest
