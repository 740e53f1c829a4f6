use Rattle.std.proofs.Common.{◌≡◌, ◌⊎◌, inl, inr, List, ℕ, false, refl, sym, subst, ◌∙◌, arith, rules}
use Rattle.std.proofs.KnownBytes.{Appends-nil}
use Rattle.std.specs.Prelude.{Contains, true}
use Rattle.std.specs.List.{list_all, list_any}
use Rattle.squall_cli_device.specs.States.{OutputFails}
use Rattle.squall_cli_lines.specs.Heeding.{InputFails, Says}
use Rattle.squall_cli_ask.specs.Files.{is_input}
use Rattle.squall_cli_ask.specs.Reads.{bytes_at}
use Rattle.squall_cli_ask.specs.BadReports.{report_fault}
use Rattle.squall_cli_ask.specs.Told.{IsTold, no_report_told}
use Rattle.squall_cli_ask.specs.Gathered.{AreRead}
use Rattle.squall_cli_ask.specs.Asked.{can_be, words_asked, files_asked, IsAnswered, IsAnswerTold, IsToldOf}
use Rattle.squall_cli_ask.proofs.Matched.{matched_true}
use Rattle.squall_cli_ask.proofs.Inquired.{no_report, unread_high, can_be_done, read_failed}
use Rattle.squall_cli_ask.proofs.Telling.{told_after}
use Rattle.squall_cli_ask.proofs.Answering.{answered_not_bad, answer_told, no_answer_told, unread_is_not_one, unread_is_no_answer, bad_is_no_answer}
use Rattle.squall_cli_ask.proofs.inquiry.answer_inquiry.Goals as goal

pub returns-then-not-can_be-clause-done : goal.returns-then-not-can_be-clause-done
returns-then-not-can_be-clause-done g c =
    no_report c.args.ask.now.inquiry (words_asked c.args.ask.now) (g.F.Files.known c.args.files.now) (g.S.Source.state c.args.input.now).remaining (g.O.Sink.state c.args.out.now).contents
    (files_asked c.args.ask.now) c.tell_no_report.result (sym c.can_be.ensures ∙ c.if-not-can_be.true) c.tell_no_report.ensures.status

pub returns-in-Ok-clause-done : goal.returns-in-Ok-clause-done
returns-in-Ok-clause-done g c =
    let asked = c.args.ask.now.inquiry in
    let words = words_asked c.args.ask.now in
    let answered = c.answer_files.ensures.text in
    let are_read = subst (λ w. AreRead (g.F.Files.known c.args.files.now) (g.S.Source.state c.args.input.now).remaining (g.S.Source.state c.read_files.new.input).remaining w c.in-Ok.read.items)
    c.files_of.ensures c.in-Ok.ensures.read in
    matched_true (can_be asked words) _ _ (sym c.can_be.ensures ∙ c.if-not-can_be.false)
    (inl (c.in-Ok.read.items, answered.0, answered.1, are_read, subst (λ w. IsAnswered c.answer_files.result asked words w answered.0) c.deref.ensures.value answered.2))

pub returns-in-Err-clause-done : goal.returns-in-Err-clause-done
returns-in-Err-clause-done g c =
    matched_true (can_be c.args.ask.now.inquiry (words_asked c.args.ask.now)) _ _ (sym c.can_be.ensures ∙ c.if-not-can_be.false)
    (inr (c.in-Err.ensures.fault, Appends-nil (g.O.Sink.state c.args.out.now).contents, c.in-Err.ensures.some))

pub returns-in-Ok-clause-ended : goal.returns-in-Ok-clause-ended
returns-in-Ok-clause-ended g c = λ named given. c.in-Ok.ensures.ended (subst (λ w. list_any is_input w ≡ true) (sym c.files_of.ensures) named) refl

pub returns-in-Err-clause-ended : goal.returns-in-Err-clause-ended
returns-in-Err-clause-ended g c = λ named given. absurd (unread_is_no_answer c.in-Err.status c.in-Err.ensures.fault given)

pub returns-in-Err-clause-device : goal.returns-in-Err-clause-device
returns-in-Err-clause-device g c = λ three.
    subst (λ w. InputFails (g.S.Source.state c.args.input.now) (g.S.Source.state c.read_files.new.input)
    ⊎ (OutputFails (g.O.Sink.state c.args.out.now) (g.O.Sink.state c.args.out.now) ⊎ (list_all is_input w ≡ false))) c.files_of.ensures (read_failed (c.in-Err.ensures.device three))

pub returns-in-Ok-clause-bad : goal.returns-in-Ok-clause-bad
returns-in-Ok-clause-bad g c = λ four. can_be_done (can_be c.args.ask.now.inquiry (words_asked c.args.ask.now)) c.answer_files.result (sym c.can_be.ensures ∙ c.if-not-can_be.false)
    (answered_not_bad c.args.ask.now.inquiry (words_asked c.args.ask.now) c.deref.result.now c.answer_files.result c.answer_files.ensures.text.0 c.answer_files.ensures.text.2)

pub returns-in-Err-clause-bad : goal.returns-in-Err-clause-bad
returns-in-Err-clause-bad g c = λ four. can_be_done (can_be c.args.ask.now.inquiry (words_asked c.args.ask.now)) c.in-Err.status (sym c.can_be.ensures ∙ c.if-not-can_be.false)
    (λ bad. let high = unread_high c.in-Err.status c.in-Err.ensures.fault in omega (arith, bad, high))

pub returns-in-Ok-clause-told : goal.returns-in-Ok-clause-told
returns-in-Ok-clause-told g c =
    let asked = c.args.ask.now.inquiry in
    let words = words_asked c.args.ask.now in
    let known = g.F.Files.known c.args.files.now in
    let before = bytes_at known (g.S.Source.state c.args.input.now) (g.O.Sink.state c.args.out.now) in
    let after = bytes_at (g.F.Files.known c.read_files.new.files) (g.S.Source.state c.read_files.new.input) (g.O.Sink.state c.answer_files.new.out) in
    let t = c.answer_files.ensures.told in
    let are_read = subst (λ w. AreRead known (g.S.Source.state c.args.input.now).remaining (g.S.Source.state c.read_files.new.input).remaining w c.in-Ok.read.items)
    c.files_of.ensures c.in-Ok.ensures.read in
    let told = subst (λ w. IsAnswerTold asked words w c.answer_files.result t.0) c.deref.ensures.value t.1 in
    told_after g.E.Sink.state c.args.err.now c.read_files.new.err c.answer_files.new.err (IsToldOf asked words before after (files_asked c.args.ask.now) c.answer_files.result) (c.in-Ok.ensures.quiet refl)
    (t.0, answer_told asked words before after (files_asked c.args.ask.now) c.in-Ok.read.items c.answer_files.result t.0 are_read told, t.2)

pub returns-in-Err-clause-told : goal.returns-in-Err-clause-told
returns-in-Err-clause-told g c =
    let before = bytes_at (g.F.Files.known c.args.files.now) (g.S.Source.state c.args.input.now) (g.O.Sink.state c.args.out.now) in
    let after = bytes_at (g.F.Files.known c.read_files.new.files) (g.S.Source.state c.read_files.new.input) (g.O.Sink.state c.args.out.now) in
    let t = subst (λ w. (text : List ℕ) × IsTold (Contains w) c.in-Err.status text × Says (g.E.Sink.state c.args.err.now) (g.E.Sink.state c.read_files.new.err) text) c.files_of.ensures
    c.in-Err.ensures.told in (
      t.0,
      no_answer_told c.args.ask.now.inquiry (words_asked c.args.ask.now) before after (files_asked c.args.ask.now) c.in-Err.status t.0 (unread_is_not_one c.in-Err.status c.in-Err.ensures.fault) t.1,
      t.2,
    )

pub returns-then-not-can_be-clause-told : goal.returns-then-not-can_be-clause-told
returns-then-not-can_be-clause-told g c =
    let here = bytes_at (g.F.Files.known c.args.files.now) (g.S.Source.state c.args.input.now) (g.O.Sink.state c.args.out.now) in
    let bad = report_fault (words_asked c.args.ask.now) in (
      no_report_told bad,
      no_answer_told c.args.ask.now.inquiry (words_asked c.args.ask.now) here here (files_asked c.args.ask.now) c.tell_no_report.result (no_report_told bad)
          (λ o. omega (arith, c.tell_no_report.ensures.status, o)) (inr (inr (inl (c.tell_no_report.ensures.status, search rules)))),
      c.tell_no_report.ensures.told,
    )

pub returns-then-not-can_be-clause-ended : goal.returns-then-not-can_be-clause-ended
returns-then-not-can_be-clause-ended g c = λ named given. absurd (bad_is_no_answer c.tell_no_report.result c.tell_no_report.ensures.status given)
