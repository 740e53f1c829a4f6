use Rattle.std.proofs.Common.{◌≡◌, inl, inr, refl, ap, sym, ◌∙◌}
use Rattle.std.proofs.lemmas.Bool.{false≢true}
use Rattle.squall_cli_run.proofs.TaskLemmas.{first_unread, second_unread, both_input, both_read}
use Rattle.squall_cli_command.specs.Line.{course}
use Rattle.squall_cli_ask.specs.Told.{IsTold}
use Rattle.squall_cli_run.specs.Named.{IsNamed}
use Rattle.squall_cli_ask.proofs.Telling.{told_of, told_after}
use Rattle.squall_cli_run.proofs.tasks.course_files.Goals as goal

pub returns-in-Err-clause-done : goal.returns-in-Err-clause-done
returns-in-Err-clause-done g c =
    let r = c.in-Err.ensures in
    first_unread c.args.plans.0 (g.F.Files.known c.args.files.now) (g.F.Files.known c.read_named.new.files) (g.S.Source.state c.args.input.now).remaining (g.S.Source.state c.read_named.new.input).remaining (g.O.Sink.state c.args.out.now).contents c.args.plans.1.now c.args.plans.2.now r.bytes.0 c.in-Err.status r.fault r.bytes.1
    (λ e. ap (λ s. (g.S.Source.state s).remaining) (r.kept e))

pub returns-clause-done : goal.returns-clause-done
returns-clause-done g c =
    let r = c.in-Ok.ensures in
    let s = c.in-Err-read_named.ensures in
    second_unread c.args.plans.0 (g.F.Files.known c.args.files.now) (g.F.Files.known c.read_named.new.files) (g.F.Files.known c.read_named-2.new.files) (g.S.Source.state c.args.input.now).remaining (g.S.Source.state c.read_named.new.input).remaining (g.S.Source.state c.read_named-2.new.input).remaining (g.O.Sink.state c.args.out.now).contents c.args.plans.1.now c.args.plans.2.now r.bytes.0 s.bytes.0 c.in-Err-read_named.status s.fault
    (λ both. false≢true (sym c.if-are_input.false ∙ c.are_input.ensures ∙ both))
    r.files r.bytes.1 (λ e. ap (λ s. (g.S.Source.state s).remaining) (r.kept e)) s.bytes.1 (λ e. ap (λ s. (g.S.Source.state s).remaining) (s.kept e))

pub returns-in-Err-clause-told : goal.returns-in-Err-clause-told
returns-in-Err-clause-told g c =
    let t = c.in-Err.ensures.told in
    (t.0, told_of (λ file. file ≡ c.args.plans.1.now) (IsNamed (course c.args.plans.0 c.args.plans.1.now c.args.plans.2.now)) c.in-Err.status t.0 (λ name same. inl same) t.1, t.2)

pub returns-clause-told : goal.returns-clause-told
returns-clause-told g c =
    let t = c.in-Err-read_named.ensures.told in
    let named = IsNamed (course c.args.plans.0 c.args.plans.1.now c.args.plans.2.now) in
    told_after g.E.Sink.state c.args.err.now c.read_named.new.err c.read_named-2.new.err (IsTold named c.in-Err-read_named.status) (c.in-Ok.ensures.quiet refl)
    (t.0, told_of (λ file. file ≡ c.args.plans.2.now) named c.in-Err-read_named.status t.0 (λ name same. inr same) t.1, t.2)

pub returns-then-are_input-clause-done : goal.returns-then-are_input-clause-done
returns-then-are_input-clause-done g c =
    let r = c.in-Ok.ensures in
    let w = c.course_text.ensures.text in
    both_input c.args.plans.0 (g.F.Files.known c.args.files.now) (g.F.Files.known c.read_named.new.files) (g.S.Source.state c.args.input.now).remaining (g.S.Source.state c.read_named.new.input).remaining (g.O.Sink.state c.args.out.now).contents (g.O.Sink.state c.course_text.new.writer).contents
    c.args.plans.1.now c.args.plans.2.now r.bytes.0 c.deref.result.now w.0 c.course_text.result c.tell_outcome.result c.tell_outcome.ensures.status w.1 (c.deref.ensures.value ∙ r.bytes.2.0) w.2 (sym c.are_input.ensures ∙ c.if-are_input.true) r.bytes.1 r.bytes.2.1

pub returns-in-Ok-read_named-clause-done : goal.returns-in-Ok-read_named-clause-done
returns-in-Ok-read_named-clause-done g c =
    let r = c.in-Ok.ensures in
    let s = c.in-Ok-read_named.ensures in
    let w = c.course_text-in-Ok-read_named.ensures.text in
    both_read c.args.plans.0 (g.F.Files.known c.args.files.now) (g.F.Files.known c.read_named.new.files) (g.F.Files.known c.read_named-2.new.files) (g.S.Source.state c.args.input.now).remaining (g.S.Source.state c.read_named.new.input).remaining (g.S.Source.state c.read_named-2.new.input).remaining (g.O.Sink.state c.args.out.now).contents (g.O.Sink.state c.course_text-in-Ok-read_named.new.writer).contents
    c.args.plans.1.now c.args.plans.2.now r.bytes.0 s.bytes.0 c.deref-in-Ok-read_named.result.now c.deref-in-Ok-read_named-2.result.now w.0 c.course_text-in-Ok-read_named.result c.tell_outcome-in-Ok-read_named.result c.tell_outcome-in-Ok-read_named.ensures.status w.1 (c.deref-in-Ok-read_named.ensures.value ∙ r.bytes.2.0) (c.deref-in-Ok-read_named-2.ensures.value ∙ s.bytes.2.0) w.2
    (λ both. false≢true (sym c.if-are_input.false ∙ c.are_input.ensures ∙ both))
    r.files r.bytes.1 r.bytes.2.1 (λ e. ap (λ s. (g.S.Source.state s).remaining) (r.kept e)) s.bytes.1 s.bytes.2.1 (λ e. ap (λ s. (g.S.Source.state s).remaining) (s.kept e))
