use Rattle.std.proofs.Common.{[], refl, subst}
use Rattle.std.proofs.KnownBytes.{Appends-nil, Consumes-nil}
use Rattle.std.proofs.lemmas.Result.{err_from_is_err_and}
use Rattle.squall_board.specs.Boards.{empty_board}
use Rattle.squall_cli_device.specs.States.{ReadAndWrote}
use Rattle.squall_cli_boards.specs.Known.{first_course}
use Rattle.squall_cli_watch.specs.Watched.{AnswersFrames, IsWatchedBy}
use Rattle.squall_cli_watch.specs.Drawn.{ShowsBars}
use Rattle.squall_cli_watch.proofs.Framed.{until_complete}
use Rattle.squall_cli_watch.proofs.Watching.{nothing_watched}
use Rattle.squall_cli_watch.proofs.Shown.{nothing_shown}
use Rattle.squall_cli_watch.proofs.frames.watch.Goals as goal

pub returns-in_err-first-clause-text : goal.returns-in_err-first-clause-text
returns-in_err-first-clause-text g c =
    let p = err_from_is_err_and c.from_residual.result c.from_residual.ensures.1 in
    rw (p.1, p.2) (
      [],
      [],
      Consumes-nil (g.S.Source.state c.args.reader.now).remaining,
      Appends-nil (g.K.Sink.state c.args.writer.now).contents,
      nothing_watched c.args.how.form (AnswersFrames c.args.how (first_course c.args.old.now c.args.new.now) empty_board []) (λ f. refl),
    )

pub returns-clause-text : goal.returns-clause-text
returns-clause-text g c =
    let r0 = g.S.Source.state c.args.reader.now in
    let r1 = g.S.Source.state c.answer_with_bar.new.reader in
    let w0 = g.K.Sink.state c.args.writer.now in
    let w1 = g.K.Sink.state c.answer_with_bar.new.writer in
    let result = c.answer_with_bar.result in
    let how = c.args.how in
    subst (λ first. ReadAndWrote r0 r1 w0 w1 (IsWatchedBy result (AnswersFrames how first empty_board []))) c.in_ok-first.ensures.course
    (subst (λ board. ReadAndWrote r0 r1 w0 w1 (IsWatchedBy result (AnswersFrames how c.in_ok-first.first board []))) c.new.ensures.empty
    (subst (λ shown. ReadAndWrote r0 r1 w0 w1 (IsWatchedBy result (AnswersFrames how c.in_ok-first.first c.new.result shown))) c.new-2.ensures.bytes c.answer_with_bar.ensures.text))

pub returns-clause-until : goal.returns-clause-until
returns-clause-until g c = λ done.
    let t = returns-clause-text g c in
    until_complete c.args.how (first_course c.args.old.now c.args.new.now) empty_board [] t.0 t.1 c.answer_with_bar.result t.4.0 done

pub returns-clause-bars : goal.returns-clause-bars
returns-clause-bars g c =
    let before = (g.S.Source.state c.args.reader.now).remaining in
    let after = (g.S.Source.state c.answer_with_bar.new.reader).remaining in
    let err = g.E.Sink.state c.args.err.now in
    let err' = g.E.Sink.state c.answer_with_bar.new.err in
    let terminal = g.E.Sink.terminal c.args.err.now in
    let result = c.answer_with_bar.result in
    subst (λ first. ShowsBars terminal c.args.how first empty_board result before after err err') c.in_ok-first.ensures.course
    (subst (λ board. ShowsBars terminal c.args.how c.in_ok-first.first board result before after err err') c.new.ensures.empty c.answer_with_bar.ensures.bars)

pub returns-in_err-first-clause-bars : goal.returns-in_err-first-clause-bars
returns-in_err-first-clause-bars g c =
    let p = err_from_is_err_and c.from_residual.result c.from_residual.ensures.1 in
    rw (p.1, p.2) (nothing_shown (g.E.Sink.terminal c.args.err.now) _ _ _ _ _ _)
