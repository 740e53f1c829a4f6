use Rattle.std.proofs.Common.{subst}
use Rattle.squall_cli_command.specs.declared.form.Form.TheVariants.{Lines}
use Rattle.squall_cli_boards.specs.Known.{newest_of}
use Rattle.squall_cli_boards.specs.Found.{known_seen, IsFound}
use Rattle.squall_cli_ask.proofs.Streamed.{lines_answered, lines_prompt, lines_refused, refused_prompt, nothing_answered, nothing_prompt}
use Rattle.squall_cli_ask.proofs.lines.answer_keys.Goals as goal

pub returns-in-Ok-Ok-clause-text : goal.returns-in-Ok-Ok-clause-text
returns-in-Ok-Ok-clause-text g c =
    lines_answered (newest_of Lines c.args.files.now) c.answer_lines.result (g.S.Source.state c.args.reader.now) (g.S.Source.state c.answer_lines.new.reader)
    (g.K.Sink.state c.args.writer.now) (g.K.Sink.state c.answer_lines.new.writer) (known_seen c.in-Ok-Ok.known)
    (subst (λ r. IsFound r (newest_of Lines c.args.files.now)) c.in-Ok-Ok.field-0-is c.in-Ok-Ok.ensures) c.answer_lines.ensures.text

pub returns-in-Ok-Ok-clause-prompt : goal.returns-in-Ok-Ok-clause-prompt
returns-in-Ok-Ok-clause-prompt g c =
    lines_prompt (newest_of Lines c.args.files.now) c.answer_lines.result (g.S.Source.state c.args.reader.now) (g.S.Source.state c.answer_lines.new.reader)
    (g.K.Sink.state c.args.writer.now) (g.K.Sink.state c.answer_lines.new.writer) (known_seen c.in-Ok-Ok.known)
    (subst (λ r. IsFound r (newest_of Lines c.args.files.now)) c.in-Ok-Ok.field-0-is c.in-Ok-Ok.ensures) c.answer_lines.ensures.prompt

pub returns-in-Ok-Err-clause-text : goal.returns-in-Ok-Err-clause-text
returns-in-Ok-Err-clause-text g c =
    let found = subst (λ r. IsFound r (newest_of Lines c.args.files.now)) c.in-Ok-Err.field-0-is c.in-Ok-Err.ensures in
    let reader = g.S.Source.state c.args.reader.now in
    lines_refused (newest_of Lines c.args.files.now) c.refuse.result reader reader (g.K.Sink.state c.args.writer.now) (g.K.Sink.state c.refuse.new.writer)
    c.in-Ok-Err.answer found c.refuse.ensures.text

pub returns-in-Ok-Err-clause-prompt : goal.returns-in-Ok-Err-clause-prompt
returns-in-Ok-Err-clause-prompt g c =
    let found = subst (λ r. IsFound r (newest_of Lines c.args.files.now)) c.in-Ok-Err.field-0-is c.in-Ok-Err.ensures in
    let reader = g.S.Source.state c.args.reader.now in
    let text = c.refuse.ensures.text in
    refused_prompt (newest_of Lines c.args.files.now) c.refuse.result reader reader (g.K.Sink.state c.args.writer.now) (g.K.Sink.state c.refuse.new.writer)
    c.in-Ok-Err.answer text.0 found text.1

pub returns-in-Err-clause-text : goal.returns-in-Err-clause-text
returns-in-Err-clause-text g c = nothing_answered (newest_of Lines c.args.files.now) (g.S.Source.state c.args.reader.now) (g.K.Sink.state c.args.writer.now)

pub returns-in-Err-clause-prompt : goal.returns-in-Err-clause-prompt
returns-in-Err-clause-prompt g c = nothing_prompt (newest_of Lines c.args.files.now) (g.S.Source.state c.args.reader.now) (g.K.Sink.state c.args.writer.now)
