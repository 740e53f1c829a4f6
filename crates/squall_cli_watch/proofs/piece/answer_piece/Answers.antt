use Rattle.std.proofs.Common.{◌≡◌, ◌∙◌, take, drop, sym}
use Rattle.std.proofs.lemmas.List.{take-append-drop}
use Rattle.std.specs.List.{concat}
use Rattle.std.specs.Option.{option_map}
use Rattle.squall_cli_watch.specs.Drawn.{IsNewestBar}
use Rattle.squall_cli_watch.proofs.Begun.{texts_alone}
use Rattle.squall_cli_watch.proofs.Drawing.{piece_shows}
use Rattle.squall_cli_watch.proofs.piece.answer_piece.Goals as goal

pub returns-clause-text : goal.returns-clause-text
returns-clause-text g c =
    let bytes = c.deref-2.result.now in
    let sent = c.in-Err.ensures.err in
    let taken = c.in_ok-next.ensures.texts in
    let is : bytes ≡ concat taken.0 = texts_alone c.new-out.result.items c.take_piece.new.out.items bytes taken.0 c.new-out.ensures.items taken.1 c.deref-2.ensures.value in
    (take sent.0 bytes, sent.1, (c.in_ok-next.next, taken.0, (drop sent.0 bytes, sym is ∙ sym (take-append-drop sent.0 bytes)), taken.2))

pub returns-in-Ok-clause-board : goal.returns-in-Ok-clause-board
returns-in-Ok-clause-board g c = c.in_ok-next.ensures.board

pub returns-in-Ok-clause-first : goal.returns-in-Ok-clause-first
returns-in-Ok-clause-first g c = λ e. c.in_ok-next.ensures.first

pub returns-clause-board : goal.returns-clause-board
returns-clause-board g c = (c.in_ok-next.next, c.in_ok-next.ensures.board)

pub returns-clause-first : goal.returns-clause-first
returns-clause-first g c = λ e. c.in_ok-next.ensures.first

pub returns-in-Ok-clause-bar : goal.returns-in-Ok-clause-bar
returns-in-Ok-clause-bar g c = piece_shows (option_map (λ text. text.items) c.in_ok-bar.bar) (IsNewestBar c.take_piece.new.watcher.first c.take_piece.new.watcher.board) c.args.line.now c.send_above.new.line
    (g.E.Sink.state c.args.err.now) (g.E.Sink.state c.send_above.new.err) c.in_ok-bar.ensures c.send_above.ensures.bar

pub returns-clause-bar : goal.returns-clause-bar
returns-clause-bar g c = piece_shows (option_map (λ text. text.items) c.in_ok-bar.bar) (IsNewestBar c.take_piece.new.watcher.first c.take_piece.new.watcher.board) c.args.line.now c.send_above.new.line
    (g.E.Sink.state c.args.err.now) (g.E.Sink.state c.send_above.new.err) c.in_ok-bar.ensures c.send_above.ensures.bar
