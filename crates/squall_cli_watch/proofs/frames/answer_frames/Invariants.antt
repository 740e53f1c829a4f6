use Rattle.std.proofs.Common.{◌≡◌, true, false, length}
use Rattle.squall_cli_device.specs.States.{NoWriteFails}
use Rattle.squall_cli_lines.proofs.Bytes.{IsReading}
use Rattle.squall_cli_watch.specs.Taken.{ShowsNewest, plays}
use Rattle.squall_cli_watch.specs.Drawing.{makes}
use Rattle.squall_cli_watch.proofs.Watching.{Watching}
use Rattle.squall_cli_watch.proofs.Drawing.{Drawing}
use Rattle.squall_cli_watch.proofs.frames.answer_frames.Given as goal

abbrev pub invariant-loop-turn : goal.invariant-loop-turn
invariant-loop-turn g l = record {
  watching : Watching (plays l.fn.watcher) (plays l.watcher) (g.S.Source.state l.fn.reader) (g.S.Source.state l.reader) (g.K.Sink.state l.fn.writer) (g.K.Sink.state l.writer) l.waiting.items;
  room : length l.block ≡ 65536;
  reads : IsReading l.turn (g.S.Source.state l.fn.reader) (g.S.Source.state l.reader);
  kept : NoWriteFails (g.K.Sink.state l.fn.writer) (g.K.Sink.state l.writer);
  first : l.watcher.first ≡ l.fn.watcher.first;
  current : ShowsNewest l.watcher;
  off : l.fn.line.on ≡ false → (l.line.on ≡ false) × (g.E.Sink.state l.err ≡ g.E.Sink.state l.fn.err);
  drawing : l.fn.line.on ≡ true → Drawing l.fn.watcher.how l.fn.watcher.first l.fn.watcher.board (makes l.watcher) l.fn.line.shown (g.S.Source.state l.fn.reader).remaining (g.S.Source.state l.reader).remaining
      (g.E.Sink.state l.fn.err) (g.E.Sink.state l.err) l.line l.waiting.items;
}
