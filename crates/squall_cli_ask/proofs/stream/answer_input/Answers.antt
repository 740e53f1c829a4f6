use Rattle.std.proofs.Common.{inl, refl}
use Rattle.squall_cli_ask.proofs.Statuses.{zero_is_fine, end_is_fine, no_bad_words, no_bad_watch, lines_fail, watch_fails, lines_heed, watch_heeds}
use Rattle.squall_cli_ask.proofs.stream.answer_input.Goals as goal

pub returns-in-Keys-clause-text : goal.returns-in-Keys-clause-text
returns-in-Keys-clause-text g c =
    let t = c.answer_keys-outcome.ensures.text in
    rw c.in-Keys.is (t.0, t.1, t.2, t.3, (c.answer_keys-outcome.result, c.tell_outcome.ensures.status, t.4))

pub returns-in-Keys-clause-prompt : goal.returns-in-Keys-clause-prompt
returns-in-Keys-clause-prompt g c = rw c.in-Keys.is c.answer_keys-outcome.ensures.prompt

pub returns-in-Keys-clause-ended : goal.returns-in-Keys-clause-ended
returns-in-Keys-clause-ended g c = λ end. c.answer_keys-outcome.ensures.fine (zero_is_fine c.answer_keys-outcome.result c.tell_outcome.result c.tell_outcome.ensures.status (rw c.in-Keys.is at end))

pub returns-in-Keys-clause-device : goal.returns-in-Keys-clause-device
returns-in-Keys-clause-device g c = λ three. lines_fail (g.S.Source.state c.args.input.now) (g.S.Source.state c.answer_keys-outcome.new.reader) (g.O.Sink.state c.args.out.now) (g.O.Sink.state c.answer_keys-outcome.new.writer) c.answer_keys-outcome.result c.tell_outcome.result c.answer_keys-outcome.ensures.heeds_reads c.answer_keys-outcome.ensures.heeds_writes c.tell_outcome.ensures.status three

pub returns-in-Keys-clause-taken : goal.returns-in-Keys-clause-taken
returns-in-Keys-clause-taken g c = no_bad_words c.answer_keys-outcome.result c.tell_outcome.result c.tell_outcome.ensures.status

pub returns-in-Keys-clause-heeds : goal.returns-in-Keys-clause-heeds
returns-in-Keys-clause-heeds g c = λ other. lines_heed (g.S.Source.state c.args.input.now) (g.S.Source.state c.answer_keys-outcome.new.reader) (g.O.Sink.state c.args.out.now) (g.O.Sink.state c.answer_keys-outcome.new.writer) c.answer_keys-outcome.result c.tell_outcome.result c.answer_keys-outcome.ensures.heeds_reads c.answer_keys-outcome.ensures.heeds_writes c.tell_outcome.ensures.status other

pub returns-in-Keys-clause-told : goal.returns-in-Keys-clause-told
returns-in-Keys-clause-told g c =
    let t = c.tell_outcome.ensures.told in
    rw c.in-Keys.is (g.E.Sink.state c.args.err.now, refl, t.0, inl (c.answer_keys-outcome.result, c.tell_outcome.ensures.status, t.1), t.2)

pub returns-in-Frames-clause-text : goal.returns-in-Frames-clause-text
returns-in-Frames-clause-text g c =
    let t = c.watch_files-outcome.ensures.text in
    rw c.in-Frames.is (t.0, t.1, t.2, t.3, (c.watch_files-outcome.result, c.tell_watch.ensures.status, t.4))

pub returns-in-Frames-clause-prompt : goal.returns-in-Frames-clause-prompt
returns-in-Frames-clause-prompt g c = rw c.in-Frames.is c.watch_files-outcome.ensures.prompt

pub returns-in-Frames-clause-ended : goal.returns-in-Frames-clause-ended
returns-in-Frames-clause-ended g c = λ end. c.watch_files-outcome.ensures.fine (end_is_fine c.in-Frames.how c.watch_files-outcome.result c.tell_watch.result c.tell_watch.ensures.status c.watch_files-outcome.ensures.until (rw c.in-Frames.is at end))

pub returns-in-Frames-clause-device : goal.returns-in-Frames-clause-device
returns-in-Frames-clause-device g c = λ three. watch_fails (g.S.Source.state c.args.input.now) (g.S.Source.state c.watch_files-outcome.new.reader) (g.O.Sink.state c.args.out.now) (g.O.Sink.state c.watch_files-outcome.new.writer) c.in-Frames.how c.watch_files-outcome.result c.tell_watch.result c.watch_files-outcome.ensures.heeds_reads c.watch_files-outcome.ensures.heeds_writes c.tell_watch.ensures.status three

pub returns-in-Frames-clause-taken : goal.returns-in-Frames-clause-taken
returns-in-Frames-clause-taken g c = no_bad_watch c.in-Frames.how c.watch_files-outcome.result c.tell_watch.result c.tell_watch.ensures.status

pub returns-in-Frames-clause-heeds : goal.returns-in-Frames-clause-heeds
returns-in-Frames-clause-heeds g c = λ other. watch_heeds (g.S.Source.state c.args.input.now) (g.S.Source.state c.watch_files-outcome.new.reader) (g.O.Sink.state c.args.out.now) (g.O.Sink.state c.watch_files-outcome.new.writer) c.in-Frames.how c.watch_files-outcome.result c.tell_watch.result c.watch_files-outcome.ensures.heeds_reads c.watch_files-outcome.ensures.heeds_writes c.tell_watch.ensures.status other

pub returns-in-Frames-clause-told : goal.returns-in-Frames-clause-told
returns-in-Frames-clause-told g c =
    let t = c.tell_watch.ensures.told in
    rw c.in-Frames.is (g.E.Sink.state c.watch_files-outcome.new.err, (c.watch_files-outcome.result, c.tell_watch.ensures.status, c.watch_files-outcome.ensures.bars), t.0, t.1, t.2)
