use Rattle.std.proofs.Common.{sym, ◌∙◌}
use Rattle.squall_cli_ask.specs.Files.{is_input}
use Rattle.squall_cli_ask.proofs.Matched.{matched_true, matched_false}
use Rattle.squall_cli_run.proofs.TaskLemmas.{unopened, answered, opened_begins, opened_whole}
use Rattle.squall_cli_run.proofs.tasks.answer_file.Goals as goal

pub returns-in-None-clause-done : goal.returns-in-None-clause-done
returns-in-None-clause-done g c =
    unopened c.args.file.0 (g.F.Files.known c.args.files.now) (g.F.Files.known c.open.new.self) (g.S.Source.state c.args.input.now).remaining (g.O.Sink.state c.args.out.now).contents c.args.file.1.now c.tell_unopened.result c.tell_unopened.ensures.status

pub returns-then-eq-clause-done : goal.returns-then-eq-clause-done
returns-then-eq-clause-done g c =
    let read = c.answer_source.ensures in
    let named = sym c.eq.ensures ∙ c.if-eq.true in
    answered c.args.file.0 (g.F.Files.known c.args.files.now) (g.F.Files.known c.args.files.now) (g.S.Source.state c.args.input.now).remaining (g.S.Source.state c.answer_source.new.source).remaining (g.O.Sink.state c.args.out.now).contents (g.O.Sink.state c.answer_source.new.out).contents c.args.file.1.now read.text.0 read.text.1 c.answer_source.result c.tell_outcome.result c.tell_outcome.ensures.status
    read.text.3 read.text.4 (matched_true (is_input c.args.file.1.now) _ _ named read.text.2) (λ needs. matched_true (is_input c.args.file.1.now) _ _ named (read.all needs).1)

pub returns-in-Some-clause-done : goal.returns-in-Some-clause-done
returns-in-Some-clause-done g c =
    let read = c.answer_source-outcome.ensures in
    let named = sym c.eq.ensures ∙ c.if-eq.false in
    let known = g.F.Files.known c.args.files.now c.args.file.1.now in
    let bytes = (g.F.File.Source.state c.in-Some.file).remaining in
    let left = (g.F.File.Source.state c.answer_source-outcome.new.source).remaining in
    answered c.args.file.0 (g.F.Files.known c.args.files.now) (g.F.Files.known c.open.new.self) (g.S.Source.state c.args.input.now).remaining (g.S.Source.state c.args.input.now).remaining (g.O.Sink.state c.args.out.now).contents (g.O.Sink.state c.answer_source-outcome.new.out).contents c.args.file.1.now read.text.0 read.text.1 c.answer_source-outcome.result c.tell_file_outcome.result c.tell_file_outcome.ensures.status
    read.text.3 read.text.4 (matched_false (is_input c.args.file.1.now) _ _ named (opened_begins known bytes left read.text.0 c.in-Some.ensures.opens read.text.2))
    (λ needs. matched_false (is_input c.args.file.1.now) _ _ named (opened_whole known bytes left read.text.0 c.in-Some.ensures.opens read.text.2 (read.all needs).1))

pub returns-then-eq-clause-no_read_after : goal.returns-then-eq-clause-no_read_after
returns-then-eq-clause-no_read_after g c = λ is named one. c.answer_source.ensures.no_read_after is (sym c.tell_outcome.ensures.status ∙ one)
