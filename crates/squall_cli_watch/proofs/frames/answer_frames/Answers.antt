use Rattle.std.proofs.Common.{◌∙◌, ◌<◌, [], sym, subst, Ok, Err, length, take, ap, arith, refl}
use Rattle.std.proofs.lemmas.Result.{err_from_is_err_and}
use Rattle.squall_cli_lines.proofs.Bytes.{reading_start, reading_more, gave_all, heeds_fault, heeds_other, heeds_limit, heeds_later, heeds_passed, fine_is_no_error}
use Rattle.squall_cli_lines.proofs.Outcomes.{take_small}
use Rattle.squall_cli_lines.specs.declared.RunFault.TheVariants.{Read}
use Rattle.squall_cli_watch.specs.declared.ending.Next.TheVariants.{On, End}
use Rattle.squall_cli_watch.specs.BarLines.{Ends}
use Rattle.squall_cli_watch.specs.Drawn.{IsNewestBar}
use Rattle.squall_cli_watch.specs.Taken.{plays}
use Rattle.squall_cli_watch.specs.Drawing.{makes}
use Rattle.squall_cli_watch.proofs.Drawing.{Drawing, drawing_start, closed_now, closed_read, closed_last, draws_on, draws_ended, draws_more, draws_last, draws_stopped, quiet_piece}
use Rattle.squall_cli_watch.proofs.Watching.{Watching, incomplete_end, watching_start, ended_now, ended_read, ended_empty, ended_last, watching_more, ended_by, ended_stopped, stops_unread}
use Rattle.squall_cli_watch.proofs.Framed.{not_fine}
use Rattle.squall_cli_watch.proofs.frames.answer_frames.Goals as goal

pub returns-in_err-room-clause-text : goal.returns-in_err-room-clause-text
returns-in_err-room-clause-text g c =
    let first = plays c.args.watcher.now in
    let reader = g.S.Source.state c.args.reader.now in
    let writer = g.K.Sink.state c.args.writer.now in
    let p = err_from_is_err_and c.from_residual.result c.from_residual.ensures.1 in
    rw (p.1, p.2) (ended_empty c.args.watcher.now.how.form first first reader reader writer writer [] (λ f. refl) (watching_start first reader writer))

pub loop-turn-init : goal.loop-turn-init
loop-turn-init g c =
    let waiting_is = sym c.new-waiting.ensures.items in
    let first = plays c.args.watcher.now in
    let reader = g.S.Source.state c.args.reader.now in
    let writer = g.K.Sink.state c.args.writer.now in
    record {
      watching = subst (Watching first first reader reader writer writer) waiting_is (watching_start first reader writer);
      room = omega (arith, c.as_mut_slice-block.ensures);
      reads = reading_start reader;
      kept = (refl, refl);
      first = refl;
      current = c.requires.current;
      off = λ e. (e, refl);
      drawing = λ on. subst (Drawing c.args.watcher.now.how c.args.watcher.now.first c.args.watcher.now.board (makes c.args.watcher.now) c.args.line.now.shown reader.remaining reader.remaining
          (g.E.Sink.state c.args.err.now) (g.E.Sink.state c.args.err.now) c.args.line.now) waiting_is
          (drawing_start c.args.watcher.now.how c.args.watcher.now.first c.args.watcher.now.board reader.remaining (g.E.Sink.state c.args.err.now) c.args.line.now on);
    }

pub returns-in_default-clause-text : goal.returns-in_default-clause-text
returns-in_default-clause-text g c =
    ended_read c.loop-turn.watcher.how.form (plays c.args.watcher.now) (plays c.loop-turn.watcher) (g.S.Source.state c.args.reader.now) (g.S.Source.state c.loop-turn.reader)
    (g.K.Sink.state c.args.writer.now) (g.K.Sink.state c.loop-turn.writer) c.loop-turn.waiting.items (λ f. refl) c.loop-turn.invariant.watching
    (g.S.Source.state c.read.new.self) c.in_default.ensures.bytes

pub returns-then-n-eq0-clause-text : goal.returns-then-n-eq0-clause-text
returns-then-n-eq0-clause-text g c =
    let t = c.answer_end.ensures.text in
    ended_last c.loop-turn.watcher.how.form (plays c.args.watcher.now) (plays c.loop-turn.watcher) (g.S.Source.state c.args.reader.now) (g.S.Source.state c.loop-turn.reader)
    (g.K.Sink.state c.args.writer.now) (g.K.Sink.state c.loop-turn.writer) c.loop-turn.waiting.items (λ f. refl) c.loop-turn.invariant.watching
    (g.S.Source.state c.read.new.self) (g.K.Sink.state c.answer_end.new.writer) c.answer_end.result t.0 (rw c.if-n-eq0.true at c.in-Ok.ensures.bytes.0) t.1 (rw c.deref.ensures.value at t.2)

pub returns-in_err-answer_piece-clause-text : goal.returns-in_err-answer_piece-clause-text
returns-in_err-answer_piece-clause-text g c =
    let p = err_from_is_err_and c.from_residual-in_err-answer_piece.result c.from_residual-in_err-answer_piece.ensures.1 in
    let t = c.in_err-answer_piece.ensures.text in
    rw (p.1, p.2) (ended_stopped c.loop-turn.watcher.how.form (plays c.args.watcher.now) (plays c.loop-turn.watcher) (g.S.Source.state c.args.reader.now) (g.S.Source.state c.loop-turn.reader)
    (g.K.Sink.state c.args.writer.now) (g.K.Sink.state c.loop-turn.writer) c.loop-turn.waiting.items (λ f. refl) c.loop-turn.invariant.watching
    (g.S.Source.state c.read.new.self) (g.K.Sink.state c.answer_piece.new.writer) c.answer_piece.new.watcher.how.form (plays c.answer_piece.new.watcher) (λ f. refl)
    (take c.in-Ok.n c.read.new.buf) t.0 c.answer_piece.new.waiting.items (take_small c.in-Ok.n c.read.new.buf (omega arith)) c.in-Ok.ensures.bytes.0 t.1
    c.in_err-answer_piece.field-0.0 t.2)

pub returns-in-End-clause-text : goal.returns-in-End-clause-text
returns-in-End-clause-text g c =
    let t = rw c.in-End.is at c.in_ok-answer_piece.ensures.text in
    ended_by c.loop-turn.watcher.how.form (plays c.args.watcher.now) (plays c.loop-turn.watcher) (g.S.Source.state c.args.reader.now) (g.S.Source.state c.loop-turn.reader)
    (g.K.Sink.state c.args.writer.now) (g.K.Sink.state c.loop-turn.writer) c.loop-turn.waiting.items (λ f. refl) c.loop-turn.invariant.watching
    (g.S.Source.state c.read.new.self) (g.K.Sink.state c.answer_piece.new.writer) c.answer_piece.new.watcher.how.form (plays c.answer_piece.new.watcher) (λ f. refl)
    (take c.in-Ok.n c.read.new.buf) t.0 c.answer_piece.new.waiting.items (take_small c.in-Ok.n c.read.new.buf (omega arith)) c.in-Ok.ensures.bytes.0 t.1
    c.in-End.end t.2.0 t.2.1 t.2.2

pub loop-turn-preserved : goal.loop-turn-preserved
loop-turn-preserved g c =
    let i = c.loop-turn.invariant in
    let b = c.in_ok-answer_piece.ensures in
    let t = rw c.in-On.is at b.text in
    let h = b.heeds.1 (λ e. fine_is_no_error _ _ e) in
    record {
      watching = watching_more c.loop-turn.watcher.how.form (plays c.args.watcher.now) (plays c.loop-turn.watcher) (g.S.Source.state c.args.reader.now) (g.S.Source.state c.loop-turn.reader)
          (g.K.Sink.state c.args.writer.now) (g.K.Sink.state c.loop-turn.writer) c.loop-turn.waiting.items (λ f. refl) i.watching
          (g.S.Source.state c.read.new.self) (g.K.Sink.state c.answer_piece.new.writer) c.answer_piece.new.watcher.how.form (plays c.answer_piece.new.watcher) (λ f. refl)
          (take c.in-Ok.n c.read.new.buf) t.0 c.answer_piece.new.waiting.items (take_small c.in-Ok.n c.read.new.buf (omega arith)) c.in-Ok.ensures.bytes.0 t.1
          t.2.0 t.2.1 t.2.2;
      room = omega arith;
      reads = reading_more _ (g.S.Source.state c.args.reader.now) (g.S.Source.state c.loop-turn.reader) (g.S.Source.state c.read.new.self) i.reads _ c.in-Ok.n c.in-Ok.ensures.reads c.in-Ok.ensures.faults c.in-Ok.ensures.ends c.if-n-eq0.false;
      kept = (h.0 ∙ i.kept.0, h.1 ∙ i.kept.1);
      first = b.first (λ e. cc) ∙ i.first;
      current = rw c.in-On.is at b.current;
      off = λ off. quiet_piece (Ok On) (IsNewestBar c.answer_piece.new.watcher.first c.answer_piece.new.watcher.board) c.loop-turn.line c.answer_piece.new.line
          (g.E.Sink.state c.args.err.now) (g.E.Sink.state c.loop-turn.err) (g.E.Sink.state c.answer_piece.new.err) (i.off off) b.bar;
      drawing = λ on. draws_more c.args.watcher.now.how c.answer_piece.new.watcher.first c.args.watcher.now.first c.args.watcher.now.board (makes c.loop-turn.watcher) (makes c.answer_piece.new.watcher) c.answer_piece.new.watcher.board refl c.args.line.now.shown
          (g.S.Source.state c.args.reader.now).remaining (g.S.Source.state c.loop-turn.reader).remaining (g.S.Source.state c.read.new.self).remaining
          (g.E.Sink.state c.args.err.now) (g.E.Sink.state c.loop-turn.err) (g.E.Sink.state c.answer_piece.new.err) c.loop-turn.line c.answer_piece.new.line c.loop-turn.waiting.items
          (take c.in-Ok.n c.read.new.buf) c.answer_piece.new.waiting.items (i.drawing on) c.in-Ok.ensures.bytes.0 (take_small c.in-Ok.n c.read.new.buf (omega arith))
          (b.first (λ e. cc) ∙ i.first) b.bar (rw c.in-On.is at b.board);
    }

pub returns-clause-text : goal.returns-clause-text
returns-clause-text g c =
    ended_now c.loop-turn.watcher.how.form (plays c.args.watcher.now) (plays c.loop-turn.watcher) (g.S.Source.state c.args.reader.now) (g.S.Source.state c.loop-turn.reader)
    (g.K.Sink.state c.args.writer.now) (g.K.Sink.state c.loop-turn.writer) c.loop-turn.waiting.items (λ f. refl) c.loop-turn.invariant.watching

pub returns-then-n-eq0-clause-fine : goal.returns-then-n-eq0-clause-fine
returns-then-n-eq0-clause-fine g c = λ _.
    let some : 0 < length c.read.new.buf = omega (arith, c.loop-turn.invariant.room) in
    gave_all _ (g.S.Source.state c.args.reader.now) (g.S.Source.state c.loop-turn.reader) (g.S.Source.state c.read.new.self) c.loop-turn.invariant.reads (length c.read.new.buf) c.in-Ok.n some c.if-n-eq0.true c.in-Ok.ensures.ends (c.in-Ok.ensures.bytes.1 c.if-n-eq0.true some)

pub returns-in_default-clause-heeds_reads : goal.returns-in_default-clause-heeds_reads
returns-in_default-clause-heeds_reads g c = heeds_fault _ (g.S.Source.state c.args.reader.now) (g.S.Source.state c.loop-turn.reader) (g.S.Source.state c.read.new.self) c.loop-turn.invariant.reads (omega arith) c.in_default.ensures.reads c.in_default.ensures.faults

pub returns-then-n-eq0-clause-heeds_reads : goal.returns-then-n-eq0-clause-heeds_reads
returns-then-n-eq0-clause-heeds_reads g c =
    heeds_other _ (g.S.Source.state c.args.reader.now) (g.S.Source.state c.loop-turn.reader) (g.S.Source.state c.read.new.self) c.loop-turn.invariant.reads (omega arith) c.in-Ok.ensures.reads c.answer_end.result c.answer_end.ensures.unread c.in-Ok.ensures.faults

pub returns-in_err-answer_piece-clause-heeds_reads : goal.returns-in_err-answer_piece-clause-heeds_reads
returns-in_err-answer_piece-clause-heeds_reads g c =
    let p = err_from_is_err_and c.from_residual-in_err-answer_piece.result c.from_residual-in_err-answer_piece.ensures.1 in
    heeds_other _ (g.S.Source.state c.args.reader.now) (g.S.Source.state c.loop-turn.reader) (g.S.Source.state c.read.new.self) c.loop-turn.invariant.reads (omega arith) c.in-Ok.ensures.reads c.from_residual-in_err-answer_piece.result (stops_unread c.from_residual-in_err-answer_piece.result c.in_err-answer_piece.field-0.0 _ _ _ _ _ (p.1 ∙ ap Err p.2) c.in_err-answer_piece.ensures.text.2) c.in-Ok.ensures.faults

pub returns-in-End-clause-heeds_reads : goal.returns-in-End-clause-heeds_reads
returns-in-End-clause-heeds_reads g c =
    heeds_other _ (g.S.Source.state c.args.reader.now) (g.S.Source.state c.loop-turn.reader) (g.S.Source.state c.read.new.self) c.loop-turn.invariant.reads (omega arith) c.in-Ok.ensures.reads _ (λ e. fine_is_no_error _ _ e) c.in-Ok.ensures.faults

pub returns-clause-heeds_reads : goal.returns-clause-heeds_reads
returns-clause-heeds_reads g c = heeds_limit c.loop-turn.turn (g.S.Source.state c.args.reader.now) (g.S.Source.state c.loop-turn.reader) c.loop-turn.invariant.reads (omega arith)

pub returns-then-n-eq0-clause-heeds_writes : goal.returns-then-n-eq0-clause-heeds_writes
returns-then-n-eq0-clause-heeds_writes g c = heeds_later c.answer_end.result (g.K.Sink.state c.args.writer.now) (g.K.Sink.state c.loop-turn.writer) (g.K.Sink.state c.answer_end.new.writer) c.loop-turn.invariant.kept c.answer_end.ensures.heeds

pub returns-in_err-answer_piece-clause-heeds_writes : goal.returns-in_err-answer_piece-clause-heeds_writes
returns-in_err-answer_piece-clause-heeds_writes g c =
    let p = err_from_is_err_and c.from_residual-in_err-answer_piece.result c.from_residual-in_err-answer_piece.ensures.1 in
    rw (p.1, p.2) (heeds_later _ (g.K.Sink.state c.args.writer.now) (g.K.Sink.state c.loop-turn.writer) (g.K.Sink.state c.answer_piece.new.writer) c.loop-turn.invariant.kept (heeds_passed c.in_err-answer_piece.field-0.0 (g.K.Sink.state c.loop-turn.writer) (g.K.Sink.state c.answer_piece.new.writer) c.in_err-answer_piece.ensures.heeds))

-- ---- the bar

pub returns-in_err-room-clause-bars : goal.returns-in_err-room-clause-bars
returns-in_err-room-clause-bars g c = λ on.
    let first = c.args.watcher.now.first in
    let b = c.args.watcher.now.board in
    let before = (g.S.Source.state c.args.reader.now).remaining in
    let err = g.E.Sink.state c.args.err.now in
    draws_on c.args.watcher.now.how first b c.args.line.now.shown c.from_residual.result before before err err c.args.line.now.on
    (closed_now c.args.watcher.now.how first b (makes c.args.watcher.now) c.args.line.now.shown before before err err c.args.line.now [] (drawing_start c.args.watcher.now.how first b before err c.args.line.now on))

pub returns-in_default-clause-off : goal.returns-in_default-clause-off
returns-in_default-clause-off g c = c.loop-turn.invariant.off

pub returns-in_default-clause-bars : goal.returns-in_default-clause-bars
returns-in_default-clause-bars g c = λ on.
    draws_on c.args.watcher.now.how c.args.watcher.now.first c.args.watcher.now.board c.args.line.now.shown (Err Read) (g.S.Source.state c.args.reader.now).remaining (g.S.Source.state c.read.new.self).remaining
    (g.E.Sink.state c.args.err.now) (g.E.Sink.state c.loop-turn.err) c.loop-turn.line.on
    (closed_read c.args.watcher.now.how c.args.watcher.now.first c.args.watcher.now.board (makes c.loop-turn.watcher) c.args.line.now.shown (g.S.Source.state c.args.reader.now).remaining (g.S.Source.state c.loop-turn.reader).remaining
    (g.E.Sink.state c.args.err.now) (g.E.Sink.state c.loop-turn.err) c.loop-turn.line c.loop-turn.waiting.items (c.loop-turn.invariant.drawing on) (g.S.Source.state c.read.new.self).remaining c.in_default.ensures.bytes)

pub returns-then-n-eq0-clause-off : goal.returns-then-n-eq0-clause-off
returns-then-n-eq0-clause-off g c = λ off.
    let quiet = c.loop-turn.invariant.off off in
    (c.end.ensures.off, subst (λ t. Ends t (g.E.Sink.state c.loop-turn.err) (g.E.Sink.state c.end.new.err)) quiet.0 c.end.ensures.ended ∙ quiet.1)

pub returns-then-n-eq0-clause-bars : goal.returns-then-n-eq0-clause-bars
returns-then-n-eq0-clause-bars g c = λ on.
    let first = c.args.watcher.now.first in
    let b = c.args.watcher.now.board in
    let before = (g.S.Source.state c.args.reader.now).remaining in
    let after = (g.S.Source.state c.loop-turn.reader).remaining in
    let after' = (g.S.Source.state c.read.new.self).remaining in
    let err = g.E.Sink.state c.args.err.now in
    let err' = g.E.Sink.state c.loop-turn.err in
    let result = c.answer_end.result in
    draws_ended c.args.watcher.now.how first b c.args.line.now.shown result before after' err err' c.loop-turn.line.on c.end.new.self.on (g.E.Sink.state c.end.new.err)
    (draws_on c.args.watcher.now.how first b c.args.line.now.shown result before after' err err' c.loop-turn.line.on
    (closed_last c.args.watcher.now.how first b (makes c.loop-turn.watcher) c.args.line.now.shown before after err err' c.loop-turn.line c.loop-turn.waiting.items (c.loop-turn.invariant.drawing on) after' (rw c.if-n-eq0.true at c.in-Ok.ensures.bytes.0)))
    c.end.ensures.ended c.end.ensures.off

pub returns-in_err-answer_piece-clause-off : goal.returns-in_err-answer_piece-clause-off
returns-in_err-answer_piece-clause-off g c = λ off.
    quiet_piece (Err c.in_err-answer_piece.field-0.0) (IsNewestBar c.answer_piece.new.watcher.first c.answer_piece.new.watcher.board) c.loop-turn.line c.answer_piece.new.line
    (g.E.Sink.state c.args.err.now) (g.E.Sink.state c.loop-turn.err) (g.E.Sink.state c.answer_piece.new.err) (c.loop-turn.invariant.off off) c.in_err-answer_piece.ensures.bar

pub returns-in_err-answer_piece-clause-bars : goal.returns-in_err-answer_piece-clause-bars
returns-in_err-answer_piece-clause-bars g c = λ on.
    let i = c.loop-turn.invariant in
    let b = c.in_err-answer_piece.ensures in
    let p = err_from_is_err_and c.from_residual-in_err-answer_piece.result c.from_residual-in_err-answer_piece.ensures.1 in
    rw (p.1, p.2) (draws_stopped c.args.watcher.now.how c.answer_piece.new.watcher.first c.args.watcher.now.first c.args.watcher.now.board (makes c.loop-turn.watcher) (makes c.answer_piece.new.watcher) c.answer_piece.new.watcher.board refl c.args.line.now.shown
    (g.S.Source.state c.args.reader.now).remaining (g.S.Source.state c.loop-turn.reader).remaining (g.S.Source.state c.read.new.self).remaining
    (g.E.Sink.state c.args.err.now) (g.E.Sink.state c.loop-turn.err) (g.E.Sink.state c.answer_piece.new.err) c.loop-turn.line c.answer_piece.new.line c.loop-turn.waiting.items
    (take c.in-Ok.n c.read.new.buf) c.answer_piece.new.waiting.items (i.drawing on) c.in-Ok.ensures.bytes.0 (take_small c.in-Ok.n c.read.new.buf (omega arith))
    c.in_err-answer_piece.field-0.0 (λ e. b.first e ∙ i.first) b.bar b.board)

pub returns-in-End-clause-off : goal.returns-in-End-clause-off
returns-in-End-clause-off g c = λ off.
    quiet_piece (Ok (End c.in-End.end)) (IsNewestBar c.answer_piece.new.watcher.first c.answer_piece.new.watcher.board) c.loop-turn.line c.answer_piece.new.line
    (g.E.Sink.state c.args.err.now) (g.E.Sink.state c.loop-turn.err) (g.E.Sink.state c.answer_piece.new.err) (c.loop-turn.invariant.off off) c.in_ok-answer_piece.ensures.bar

pub returns-in-End-clause-bars : goal.returns-in-End-clause-bars
returns-in-End-clause-bars g c = λ on.
    let i = c.loop-turn.invariant in
    let b = c.in_ok-answer_piece.ensures in
    draws_last c.args.watcher.now.how c.answer_piece.new.watcher.first c.args.watcher.now.first c.args.watcher.now.board (makes c.loop-turn.watcher) (makes c.answer_piece.new.watcher) c.answer_piece.new.watcher.board refl c.args.line.now.shown
    (g.S.Source.state c.args.reader.now).remaining (g.S.Source.state c.loop-turn.reader).remaining (g.S.Source.state c.read.new.self).remaining
    (g.E.Sink.state c.args.err.now) (g.E.Sink.state c.loop-turn.err) (g.E.Sink.state c.answer_piece.new.err) c.loop-turn.line c.answer_piece.new.line c.loop-turn.waiting.items
    (take c.in-Ok.n c.read.new.buf) c.answer_piece.new.waiting.items (i.drawing on) c.in-Ok.ensures.bytes.0 (take_small c.in-Ok.n c.read.new.buf (omega arith))
    (b.first (λ e. cc) ∙ i.first) c.in-End.end b.bar (rw c.in-End.is at b.board) (Ok c.in-End.end)

pub returns-clause-off : goal.returns-clause-off
returns-clause-off g c = c.loop-turn.invariant.off

pub returns-clause-bars : goal.returns-clause-bars
returns-clause-bars g c = λ on.
    draws_on c.args.watcher.now.how c.args.watcher.now.first c.args.watcher.now.board c.args.line.now.shown (Err Read) (g.S.Source.state c.args.reader.now).remaining (g.S.Source.state c.loop-turn.reader).remaining
    (g.E.Sink.state c.args.err.now) (g.E.Sink.state c.loop-turn.err) c.loop-turn.line.on
    (closed_now c.args.watcher.now.how c.args.watcher.now.first c.args.watcher.now.board (makes c.loop-turn.watcher) c.args.line.now.shown (g.S.Source.state c.args.reader.now).remaining (g.S.Source.state c.loop-turn.reader).remaining
    (g.E.Sink.state c.args.err.now) (g.E.Sink.state c.loop-turn.err) c.loop-turn.line c.loop-turn.waiting.items (c.loop-turn.invariant.drawing on))

-- ---- the end

pub returns-in-End-clause-fine : goal.returns-in-End-clause-fine
returns-in-End-clause-fine g c = λ e. absurd (not_fine c.in-End.end (rw c.in-End.is at c.in_ok-answer_piece.ensures.current) (Ok c.in-End.end) refl e)

pub returns-in-End-clause-no_read_after : goal.returns-in-End-clause-no_read_after
returns-in-End-clause-no_read_after g c = λ done. (reading_more _ (g.S.Source.state c.args.reader.now) (g.S.Source.state c.loop-turn.reader) (g.S.Source.state c.read.new.self) c.loop-turn.invariant.reads _ c.in-Ok.n
    c.in-Ok.ensures.reads c.in-Ok.ensures.faults c.in-Ok.ensures.ends c.if-n-eq0.false).ends

pub returns-then-n-eq0-clause-no_read_after : goal.returns-then-n-eq0-clause-no_read_after
returns-then-n-eq0-clause-no_read_after g c = λ done.
    let t = c.answer_end.ensures.text in
    absurd (incomplete_end c.loop-turn.watcher.how.form c.answer_end.result _ _ done t.2)
