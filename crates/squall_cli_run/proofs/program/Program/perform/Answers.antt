use Rattle.std.proofs.Common.{inl, inr, Err, refl, subst, arith}
use Rattle.squall_cli_lines.specs.declared.RunFault.TheVariants.{NoMemory}
use Rattle.squall_cli_ask.specs.Reads.{bytes_at}
use Rattle.squall_cli_run.specs.Tasks.{AnswersPromptly, ReadsNoFurther}
use Rattle.squall_cli_run.proofs.TaskLemmas.{nothing_done, not_ended, nothing_promptly, device_of_words, help_unwritten, drawn_for_words, undrawn_unasked, no_help, no_fault, one_job}
use Rattle.squall_cli_run.proofs.Telling.{fault_unrefused}
use Rattle.squall_cli_command.specs.Line.{words_of, job_seen}
use Rattle.squall_cli_run.proofs.program.Program.perform.Goals as goal

pub returns-in-Ok-clause-device : goal.returns-in-Ok-clause-device
returns-in-Ok-clause-device g c = λ e. device_of_words _ _ (words_of c.args.words.now) (job_seen c.in-Ok.task) c.in-Ok.ensures.task (c.do_task.ensures.device e)

pub returns-in-Ok-clause-prompt : goal.returns-in-Ok-clause-prompt
returns-in-Ok-clause-prompt g c = λ job also.
    subst (AnswersPromptly (bytes_at (g.F.Files.known c.args.files.now) (g.S.Source.state c.args.input.now) (g.O.Sink.state c.args.out.now))
    (bytes_at (g.F.Files.known c.do_task.new.files) (g.S.Source.state c.do_task.new.input) (g.O.Sink.state c.do_task.new.out)))
    (one_job (words_of c.args.words.now) (job_seen c.in-Ok.task) job c.in-Ok.ensures.task also) c.do_task.ensures.prompt

pub returns-in-Ok-clause-no_read_after : goal.returns-in-Ok-clause-no_read_after
returns-in-Ok-clause-no_read_after g c = λ job also one.
    subst (ReadsNoFurther (g.S.Source.state c.args.input.now) (g.S.Source.state c.do_task.new.input))
    (one_job (words_of c.args.words.now) (job_seen c.in-Ok.task) job c.in-Ok.ensures.task also) (c.do_task.ensures.no_read_after one)

pub returns-in-Ok-clause-told : goal.returns-in-Ok-clause-told
returns-in-Ok-clause-told g c =
    let t = c.do_task.ensures.told in (
      t.0,
      drawn_for_words (words_of c.args.words.now) (job_seen c.in-Ok.task) (g.E.Sink.terminal c.args.err.now)
          (bytes_at (g.F.Files.known c.args.files.now) (g.S.Source.state c.args.input.now) (g.O.Sink.state c.args.out.now))
          (bytes_at (g.F.Files.known c.do_task.new.files) (g.S.Source.state c.do_task.new.input) (g.O.Sink.state c.do_task.new.out)) c.do_task.result (g.E.Sink.state c.args.err.now) t.0
          c.in-Ok.ensures.task t.1,
      t.2,
      inl (job_seen c.in-Ok.task, c.in-Ok.ensures.task, t.3),
      t.4,
    )

pub returns-in-Err-Help-clause-told : goal.returns-in-Err-Help-clause-told
returns-in-Err-Help-clause-told g c =
    let asks = (c.in-Err-Help.ensures.help (λ e. cc)).0 (rw c.in-Err-Help.field-0-is refl) in
    let t = c.show_help.ensures.told in
    (g.E.Sink.state c.args.err.now, ((λ job also. absurd (no_help (words_of c.args.words.now) job also asks)), inl refl), t.0, inr (c.show_help.ensures.unrefused, t.1), t.2)

pub returns-in-Err-Bad-clause-told : goal.returns-in-Err-Bad-clause-told
returns-in-Err-Bad-clause-told g c =
    let faulty = (c.in-Err-Bad.ensures.refused (λ e. cc)).0 (rw c.in-Err-Bad.field-0-is refl) in
    let t = c.show_fault.ensures.told faulty in
    (g.E.Sink.state c.args.err.now, ((λ job also. absurd (no_fault (words_of c.args.words.now) job also faulty)), inl refl), t.0, inr (fault_unrefused c.show_fault.result c.show_fault.ensures.bad, t.1), t.2)

pub returns-in-Err-Help-clause-device : goal.returns-in-Err-Help-clause-device
returns-in-Err-Help-clause-device g c = λ e. inr (inl (c.show_help.ensures.device e))

pub returns-in-Err-Bad-clause-device : goal.returns-in-Err-Bad-clause-device
returns-in-Err-Bad-clause-device g c = λ e. absurd (c.show_fault.ensures.device e)

pub returns-in-Err-NoMemory-clause-done : goal.returns-in-Err-NoMemory-clause-done
returns-in-Err-NoMemory-clause-done g c = λ job asks. nothing_done (g.F.Files.known c.args.files.now) (g.S.Source.state c.args.input.now).remaining (g.O.Sink.state c.args.out.now).contents job c.tell_fault.result c.tell_fault.ensures.status

pub returns-in-Err-NoMemory-clause-prompt : goal.returns-in-Err-NoMemory-clause-prompt
returns-in-Err-NoMemory-clause-prompt g c = λ job asks. nothing_promptly (g.F.Files.known c.args.files.now) (g.S.Source.state c.args.input.now).remaining (g.O.Sink.state c.args.out.now).contents job

pub returns-in-Err-NoMemory-clause-no_read_after : goal.returns-in-Err-NoMemory-clause-no_read_after
returns-in-Err-NoMemory-clause-no_read_after g c = λ job asks one. absurd (omega (arith, c.tell_fault.ensures.status, one))

pub returns-in-Err-NoMemory-clause-help : goal.returns-in-Err-NoMemory-clause-help
returns-in-Err-NoMemory-clause-help g c = λ _. help_unwritten c.args.self.now.title.now (g.O.Sink.state c.args.out.now) c.tell_fault.result c.tell_fault.ensures.status

pub returns-in-Err-NoMemory-clause-told : goal.returns-in-Err-NoMemory-clause-told
returns-in-Err-NoMemory-clause-told g c =
    let t = c.tell_fault.ensures.told in
    (g.E.Sink.state c.args.err.now, ((λ job asks. undrawn_unasked _ _ _ c.tell_fault.result (g.E.Sink.state c.args.err.now) c.tell_fault.ensures.status job), inl refl), t.0, inr ((λ one. omega (arith, c.tell_fault.ensures.status, one)), inl (Err NoMemory, c.tell_fault.ensures.status, t.1)), t.2)

pub returns-in-Err-NoMemory-clause-ended : goal.returns-in-Err-NoMemory-clause-ended
returns-in-Err-NoMemory-clause-ended g c = λ job asks ended. absurd (not_ended job c.tell_fault.result c.tell_fault.ensures.status ended)
