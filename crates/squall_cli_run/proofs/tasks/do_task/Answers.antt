use Rattle.std.proofs.Common.{◌≡◌, ◌⊎◌, List, ℕ, ap, refl, sym, subst, ◌∙◌}
use Rattle.std.specs.Borrow.{Bor}
use Rattle.std.specs.Prelude.{Contains}
use Rattle.squall_cli_device.specs.States.{OutputFails}
use Rattle.squall_cli_lines.specs.Heeding.{InputFails}
use Rattle.squall_cli_command.specs.declared.form.Form.TheVariants.{Lines}
use Rattle.squall_cli_command.specs.Line.{course, job_seen}
use Rattle.squall_cli_ask.specs.Followed.{files_followed}
use Rattle.squall_cli_ask.specs.Reads.{bytes_at}
use Rattle.squall_cli_run.specs.Tasks.{AnswersPromptly, ReadsNoFurther, DrawsFor, NamesFile}
use Rattle.squall_cli_run.specs.declared.tasks.Purpose.{Purpose}
use Rattle.squall_cli_run.specs.Named.{IsNamed, IsToldFor}
use Rattle.squall_cli_ask.proofs.Telling.{told_of}
use Rattle.squall_cli_run.proofs.Telling.{named_check, named_course, named_run, named_race, told_check, told_course, told_run, told_race}
use Rattle.squall_cli_run.proofs.TaskLemmas.{run_promptly, run_stops, undrawn_check, undrawn_course, undrawn_run, undrawn_race}
use Rattle.squall_cli_run.proofs.tasks.do_task.Goals.{in-Check, in-Run, in-Race}
use Rattle.squall_cli_run.proofs.tasks.do_task.Goals as goal

pub returns-in-Course-clause-told : goal.returns-in-Course-clause-told
returns-in-Course-clause-told g c =
    let t = c.course_files.ensures.told in
    let e = g.E.Sink.state c.args.err.now in
    let job = job_seen c.args.task.now in
    let before = bytes_at (g.F.Files.known c.args.files.now) (g.S.Source.state c.args.input.now) (g.O.Sink.state c.args.out.now) in
    let after = bytes_at (g.F.Files.known c.course_files.new.files) (g.S.Source.state c.course_files.new.input) (g.O.Sink.state c.course_files.new.out) in (
      e,
      undrawn_course (g.E.Sink.terminal c.args.err.now) before after c.course_files.result e job _ _ _ (ap job_seen c.in-Course.is),
      t.0,
      told_course job before after c.course_files.result t.0 _ _ _ (ap job_seen c.in-Course.is)
          (told_of (IsNamed (course Lines c.as_str-old.result.now c.as_str-new.result.now)) (IsNamed job) c.course_files.result t.0 (named_course job _ _ _ _ _ (ap job_seen c.in-Course.is) c.as_str-old.ensures.value c.as_str-new.ensures.value) t.1),
      t.2,
    )

pub returns-in-Ask-clause-device : goal.returns-in-Ask-clause-device
returns-in-Ask-clause-device g c = λ three.
    subst (λ j. InputFails (g.S.Source.state c.args.input.now) (g.S.Source.state c.answer_inquiry.new.input)
    ⊎ (OutputFails (g.O.Sink.state c.args.out.now) (g.O.Sink.state c.answer_inquiry.new.out) ⊎ NamesFile j)) (sym (ap job_seen c.in-Ask.is)) (c.answer_inquiry.ensures.device three)

pub returns-in-Ask-clause-told : goal.returns-in-Ask-clause-told
returns-in-Ask-clause-told g c =
    let t = c.answer_inquiry.ensures.told in
    let e = g.E.Sink.state c.args.err.now in (
      e,
      subst (λ j. DrawsFor j (g.E.Sink.terminal c.args.err.now) (bytes_at (g.F.Files.known c.args.files.now) (g.S.Source.state c.args.input.now) (g.O.Sink.state c.args.out.now))
          (bytes_at (g.F.Files.known c.answer_inquiry.new.files) (g.S.Source.state c.answer_inquiry.new.input) (g.O.Sink.state c.answer_inquiry.new.out)) c.answer_inquiry.result e e)
          (sym (ap job_seen c.in-Ask.is)) refl,
      t.0,
      subst (λ j. IsToldFor j (bytes_at (g.F.Files.known c.args.files.now) (g.S.Source.state c.args.input.now) (g.O.Sink.state c.args.out.now))
          (bytes_at (g.F.Files.known c.answer_inquiry.new.files) (g.S.Source.state c.answer_inquiry.new.input) (g.O.Sink.state c.answer_inquiry.new.out)) c.answer_inquiry.result t.0)
          (sym (ap job_seen c.in-Ask.is)) t.1,
      t.2,
    )

pub returns-in-Stream-clause-device : goal.returns-in-Stream-clause-device
returns-in-Stream-clause-device g c = λ three.
    subst (λ j. InputFails (g.S.Source.state c.args.input.now) (g.S.Source.state c.answer_stream.new.input)
    ⊎ (OutputFails (g.O.Sink.state c.args.out.now) (g.O.Sink.state c.answer_stream.new.out) ⊎ NamesFile j)) (sym (ap job_seen c.in-Stream.is)) (c.answer_stream.ensures.device three)

pub returns-in-Stream-clause-told : goal.returns-in-Stream-clause-told
returns-in-Stream-clause-told g c =
    let t = c.answer_stream.ensures.told in (
      t.0,
      subst (λ j. DrawsFor j (g.E.Sink.terminal c.args.err.now) (bytes_at (g.F.Files.known c.args.files.now) (g.S.Source.state c.args.input.now) (g.O.Sink.state c.args.out.now))
          (bytes_at (g.F.Files.known c.answer_stream.new.files) (g.S.Source.state c.answer_stream.new.input) (g.O.Sink.state c.answer_stream.new.out)) c.answer_stream.result
          (g.E.Sink.state c.args.err.now) t.0) (sym (ap job_seen c.in-Stream.is)) t.1,
      t.2,
      subst (λ j. IsToldFor j (bytes_at (g.F.Files.known c.args.files.now) (g.S.Source.state c.args.input.now) (g.O.Sink.state c.args.out.now))
          (bytes_at (g.F.Files.known c.answer_stream.new.files) (g.S.Source.state c.answer_stream.new.input) (g.O.Sink.state c.answer_stream.new.out)) c.answer_stream.result t.2)
          (sym (ap job_seen c.in-Stream.is)) (told_of (Contains (files_followed c.in-Stream.follow)) (Contains (files_followed c.in-Stream.follow)) c.answer_stream.result t.2 (λ name named. named) t.3),
      t.4,
    )

pub returns-in-Course-clause-prompt : goal.returns-in-Course-clause-prompt
returns-in-Course-clause-prompt g c = subst (AnswersPromptly (bytes_at (g.F.Files.known c.args.files.now) (g.S.Source.state c.args.input.now) (g.O.Sink.state c.args.out.now))
    (bytes_at (g.F.Files.known c.course_files.new.files) (g.S.Source.state c.course_files.new.input) (g.O.Sink.state c.course_files.new.out)))
    (sym (ap job_seen c.in-Course.is)) tt

pub returns-in-Course-clause-no_read_after : goal.returns-in-Course-clause-no_read_after
returns-in-Course-clause-no_read_after g c = λ one. subst (ReadsNoFurther (g.S.Source.state c.args.input.now) (g.S.Source.state c.course_files.new.input)) (sym (ap job_seen c.in-Course.is)) tt

pub returns-in-Ask-clause-prompt : goal.returns-in-Ask-clause-prompt
returns-in-Ask-clause-prompt g c = subst (AnswersPromptly (bytes_at (g.F.Files.known c.args.files.now) (g.S.Source.state c.args.input.now) (g.O.Sink.state c.args.out.now))
    (bytes_at (g.F.Files.known c.answer_inquiry.new.files) (g.S.Source.state c.answer_inquiry.new.input) (g.O.Sink.state c.answer_inquiry.new.out)))
    (sym (ap job_seen c.in-Ask.is)) tt

pub returns-in-Ask-clause-no_read_after : goal.returns-in-Ask-clause-no_read_after
returns-in-Ask-clause-no_read_after g c = λ one. subst (ReadsNoFurther (g.S.Source.state c.args.input.now) (g.S.Source.state c.answer_inquiry.new.input)) (sym (ap job_seen c.in-Ask.is)) tt

pub returns-in-Stream-clause-prompt : goal.returns-in-Stream-clause-prompt
returns-in-Stream-clause-prompt g c = subst (AnswersPromptly (bytes_at (g.F.Files.known c.args.files.now) (g.S.Source.state c.args.input.now) (g.O.Sink.state c.args.out.now))
    (bytes_at (g.F.Files.known c.answer_stream.new.files) (g.S.Source.state c.answer_stream.new.input) (g.O.Sink.state c.answer_stream.new.out)))
    (sym (ap job_seen c.in-Stream.is)) c.answer_stream.ensures.prompt

pub returns-in-Stream-clause-no_read_after : goal.returns-in-Stream-clause-no_read_after
returns-in-Stream-clause-no_read_after g c = λ one. subst (ReadsNoFurther (g.S.Source.state c.args.input.now) (g.S.Source.state c.answer_stream.new.input)) (sym (ap job_seen c.in-Stream.is)) tt

abbrev file_name : Purpose × Bor (List ℕ) → List ℕ
file_name file = file.1.now

abbrev file_purpose : Purpose × Bor (List ℕ) → Purpose
file_purpose file = file.0

pub returns-clause-prompt : goal.returns-clause-prompt
returns-clause-prompt g c =
    let job = job_seen c.args.task.now in
    let before = bytes_at (g.F.Files.known c.args.files.now) (g.S.Source.state c.args.input.now) (g.O.Sink.state c.args.out.now) in
    let after = bytes_at (g.F.Files.known c.answer_file.new.files) (g.S.Source.state c.answer_file.new.input) (g.O.Sink.state c.answer_file.new.out) in
    elim c.match-task.branch [
      | in-Check w ↦ subst (AnswersPromptly before after) (sym (ap job_seen w.in-Check.is)) tt
      | in-Run w ↦ run_promptly job c.match-task.file.1.now _ (ap job_seen w.in-Run.is) (ap file_name w.file-is ∙ w.as_str-in-Run.ensures.value) before after (c.answer_file.ensures.prompt (ap file_purpose w.file-is))
      | in-Race w ↦ subst (AnswersPromptly before after) (sym (ap job_seen w.in-Race.is)) tt
    ]

pub returns-clause-no_read_after : goal.returns-clause-no_read_after
returns-clause-no_read_after g c = λ one.
    let job = job_seen c.args.task.now in
    let old = g.S.Source.state c.args.input.now in
    let new = g.S.Source.state c.answer_file.new.input in
    elim c.match-task.branch [
      | in-Check w ↦ subst (ReadsNoFurther old new) (sym (ap job_seen w.in-Check.is)) tt
      | in-Run w ↦ run_stops job c.match-task.file.1.now _ (ap job_seen w.in-Run.is) (ap file_name w.file-is ∙ w.as_str-in-Run.ensures.value) old new (λ named. c.answer_file.ensures.no_read_after (ap file_purpose w.file-is) named one)
      | in-Race w ↦ subst (ReadsNoFurther old new) (sym (ap job_seen w.in-Race.is)) tt
    ]

pub returns-clause-told : goal.returns-clause-told
returns-clause-told g c =
    let t = c.answer_file.ensures.told in
    let job = job_seen c.args.task.now in
    let named : (name : List ℕ) → name ≡ c.match-task.file.1.now → IsNamed job name = elim c.match-task.branch [
      | in-Check w ↦ named_check job _ _ _ (ap job_seen w.in-Check.is) (ap file_name w.file-is ∙ w.as_str.ensures.value)
      | in-Run w ↦ named_run job _ _ (ap job_seen w.in-Run.is) (ap file_name w.file-is ∙ w.as_str-in-Run.ensures.value)
      | in-Race w ↦ named_race job _ _ (ap job_seen w.in-Race.is) (ap file_name w.file-is ∙ w.as_str-in-Race.ensures.value)
    ] in
    let e = g.E.Sink.state c.args.err.now in
    let terminal = g.E.Sink.terminal c.args.err.now in
    let before = bytes_at (g.F.Files.known c.args.files.now) (g.S.Source.state c.args.input.now) (g.O.Sink.state c.args.out.now) in
    let after = bytes_at (g.F.Files.known c.answer_file.new.files) (g.S.Source.state c.answer_file.new.input) (g.O.Sink.state c.answer_file.new.out) in
    let undrawn : DrawsFor job terminal before after c.answer_file.result e e = elim c.match-task.branch [
      | in-Check w ↦ undrawn_check terminal before after c.answer_file.result e job _ _ (ap job_seen w.in-Check.is)
      | in-Run w ↦ undrawn_run terminal before after c.answer_file.result e job _ (ap job_seen w.in-Run.is)
      | in-Race w ↦ undrawn_race terminal before after c.answer_file.result e job _ (ap job_seen w.in-Race.is)
    ] in
    let told = told_of (λ name. name ≡ c.match-task.file.1.now) (IsNamed job) c.answer_file.result t.0 named t.1 in
    let told_for : IsToldFor job before after c.answer_file.result t.0 = elim c.match-task.branch [
      | in-Check w ↦ told_check job before after c.answer_file.result t.0 _ _ (ap job_seen w.in-Check.is) told
      | in-Run w ↦ told_run job before after c.answer_file.result t.0 _ (ap job_seen w.in-Run.is) told
      | in-Race w ↦ told_race job before after c.answer_file.result t.0 _ (ap job_seen w.in-Race.is) told
    ] in
    (e, undrawn, t.0, told_for, t.2)
