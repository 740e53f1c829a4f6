use Rattle.std.proofs.Common.{[], refl}
use Rattle.std.proofs.lemmas.Result.{err_from_is_err_and}
use Rattle.squall_cli_watch.specs.Taken.{plays}
use Rattle.squall_cli_watch.proofs.Shown.{nothing_shown, shown_in_all}
use Rattle.squall_cli_watch.proofs.Watching.{watching_start, ended_empty}
use Rattle.squall_cli_watch.proofs.frames.answer_with_bar.Goals as goal

pub returns-in_err-line-clause-text : goal.returns-in_err-line-clause-text
returns-in_err-line-clause-text g c =
    let first = plays c.args.watcher.now in
    let reader = g.S.Source.state c.args.reader.now in
    let writer = g.K.Sink.state c.args.writer.now in
    let p = err_from_is_err_and c.from_residual.result c.from_residual.ensures.1 in
    rw (p.1, p.2) (ended_empty c.args.watcher.now.how.form first first reader reader writer writer [] (λ f. refl) (watching_start first reader writer))

pub returns-in_err-line-clause-bars : goal.returns-in_err-line-clause-bars
returns-in_err-line-clause-bars g c =
    let p = err_from_is_err_and c.from_residual.result c.from_residual.ensures.1 in
    rw (p.1, p.2, c.in_err-line.ensures.kept) (nothing_shown (g.E.Sink.terminal c.args.err.now) c.args.watcher.now.how c.args.watcher.now.first c.args.watcher.now.board _ _ (g.E.Sink.state c.args.err.now))

pub returns-clause-bars : goal.returns-clause-bars
returns-clause-bars g c =
    let e = c.answer_frames-ended.ensures in
    shown_in_all (g.E.Sink.terminal c.args.err.now) c.args.watcher.now.how c.args.watcher.now.first c.args.watcher.now.board c.answer_frames-ended.result
    (g.S.Source.state c.args.reader.now).remaining (g.S.Source.state c.answer_frames-ended.new.reader).remaining
    (g.E.Sink.state c.args.err.now) (g.E.Sink.state c.start_line.new.err) (g.E.Sink.state c.answer_frames-ended.new.err) (g.E.Sink.state c.end.new.err)
    c.in_ok-line.line c.answer_frames-ended.new.line e.text.0 c.in_ok-line.ensures.started e.off e.bars c.end.ensures.ended e.text.2
