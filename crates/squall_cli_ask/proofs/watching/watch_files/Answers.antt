use Rattle.std.proofs.Common.{subst, Err}
use Rattle.squall_plan.specs.Form.{plan_of_text}
use Rattle.squall_cli_lines.specs.declared.RunFault.TheVariants.{NoMemory}
use Rattle.squall_cli_boards.specs.Answers.{bytes_at}
use Rattle.squall_cli_boards.specs.Plans.{ArePlansReadIn}
use Rattle.squall_cli_ask.proofs.Watched.{plans_watched, plans_refused, nothing_followed, watched_promptly, plans_shown, refused_unshown, memory_unshown}
use Rattle.squall_cli_ask.proofs.watching.watch_files.Goals as goal

pub returns-in-Ok-Ok-clause-text : goal.returns-in-Ok-Ok-clause-text
returns-in-Ok-Ok-clause-text g c =
    let old = plan_of_text (bytes_at c.args.files.now 0) in
    let new = plan_of_text (bytes_at c.args.files.now 1) in
    let plans = subst (λ r. ArePlansReadIn c.args.how.form r old new) c.in-Ok-Ok.field-0-is c.in-Ok-Ok.ensures in
    plans_watched c.args.how old new c.watch.result (g.S.Source.state c.args.reader.now) (g.S.Source.state c.watch.new.reader)
    (g.K.Sink.state c.args.writer.now) (g.K.Sink.state c.watch.new.writer) c.in-Ok-Ok.old c.in-Ok-Ok.new plans.0 plans.1 c.watch.ensures.text

pub returns-in-Ok-Err-clause-text : goal.returns-in-Ok-Err-clause-text
returns-in-Ok-Err-clause-text g c =
    let old = plan_of_text (bytes_at c.args.files.now 0) in
    let new = plan_of_text (bytes_at c.args.files.now 1) in
    let refused = subst (λ r. ArePlansReadIn c.args.how.form r old new) c.in-Ok-Err.field-0-is c.in-Ok-Err.ensures in
    plans_refused c.args.how old new c.refuse_plan.result (g.S.Source.state c.args.reader.now)
    (g.K.Sink.state c.args.writer.now) (g.K.Sink.state c.refuse_plan.new.writer) c.in-Ok-Err.answer refused c.refuse_plan.ensures.text

pub returns-in-Err-clause-text : goal.returns-in-Err-clause-text
returns-in-Err-clause-text g c =
    nothing_followed c.args.how (plan_of_text (bytes_at c.args.files.now 0)) (plan_of_text (bytes_at c.args.files.now 1)) (g.S.Source.state c.args.reader.now) (g.K.Sink.state c.args.writer.now)

pub returns-in-Ok-Ok-clause-prompt : goal.returns-in-Ok-Ok-clause-prompt
returns-in-Ok-Ok-clause-prompt g c =
    watched_promptly c.args.how (plan_of_text (bytes_at c.args.files.now 0)) (plan_of_text (bytes_at c.args.files.now 1)) c.watch.result (g.S.Source.state c.args.reader.now) (g.S.Source.state c.watch.new.reader)
    (g.K.Sink.state c.args.writer.now) (g.K.Sink.state c.watch.new.writer) (returns-in-Ok-Ok-clause-text g c)

pub returns-in-Ok-Err-clause-prompt : goal.returns-in-Ok-Err-clause-prompt
returns-in-Ok-Err-clause-prompt g c =
    watched_promptly c.args.how (plan_of_text (bytes_at c.args.files.now 0)) (plan_of_text (bytes_at c.args.files.now 1)) c.refuse_plan.result (g.S.Source.state c.args.reader.now) (g.S.Source.state c.args.reader.now)
    (g.K.Sink.state c.args.writer.now) (g.K.Sink.state c.refuse_plan.new.writer) (returns-in-Ok-Err-clause-text g c)

pub returns-in-Err-clause-prompt : goal.returns-in-Err-clause-prompt
returns-in-Err-clause-prompt g c =
    watched_promptly c.args.how (plan_of_text (bytes_at c.args.files.now 0)) (plan_of_text (bytes_at c.args.files.now 1)) (Err NoMemory) (g.S.Source.state c.args.reader.now) (g.S.Source.state c.args.reader.now)
    (g.K.Sink.state c.args.writer.now) (g.K.Sink.state c.args.writer.now) (returns-in-Err-clause-text g c)

pub returns-in-Ok-Ok-clause-bars : goal.returns-in-Ok-Ok-clause-bars
returns-in-Ok-Ok-clause-bars g c =
    let old = plan_of_text (bytes_at c.args.files.now 0) in
    let new = plan_of_text (bytes_at c.args.files.now 1) in
    let plans = subst (λ r. ArePlansReadIn c.args.how.form r old new) c.in-Ok-Ok.field-0-is c.in-Ok-Ok.ensures in
    plans_shown (g.E.Sink.terminal c.args.err.now) c.args.how (g.S.Source.state c.args.reader.now).remaining (g.S.Source.state c.watch.new.reader).remaining
    (g.E.Sink.state c.args.err.now) (g.E.Sink.state c.watch.new.err) old new c.watch.result c.in-Ok-Ok.old c.in-Ok-Ok.new plans.0 plans.1 c.watch.ensures.bars

pub returns-in-Ok-Err-clause-bars : goal.returns-in-Ok-Err-clause-bars
returns-in-Ok-Err-clause-bars g c =
    let old = plan_of_text (bytes_at c.args.files.now 0) in
    let new = plan_of_text (bytes_at c.args.files.now 1) in
    let refused = subst (λ r. ArePlansReadIn c.args.how.form r old new) c.in-Ok-Err.field-0-is c.in-Ok-Err.ensures in
    refused_unshown c.args.how (g.E.Sink.terminal c.args.err.now) old new c.refuse_plan.result (g.S.Source.state c.args.reader.now).remaining (g.S.Source.state c.args.reader.now).remaining
    (g.E.Sink.state c.args.err.now) c.in-Ok-Err.answer refused

pub returns-in-Err-clause-bars : goal.returns-in-Err-clause-bars
returns-in-Err-clause-bars g c =
    memory_unshown (g.E.Sink.terminal c.args.err.now) c.args.how (plan_of_text (bytes_at c.args.files.now 0)) (plan_of_text (bytes_at c.args.files.now 1))
    (g.S.Source.state c.args.reader.now).remaining (g.S.Source.state c.args.reader.now).remaining (g.E.Sink.state c.args.err.now)
