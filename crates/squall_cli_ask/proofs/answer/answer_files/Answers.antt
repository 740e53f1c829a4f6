use Rattle.std.proofs.Common.{◌∙◌, sym, subst, map, string_bytes}
use Rattle.squall_cli_ask.specs.Audited.{IsAnswerFor}
use Rattle.squall_cli_ask.specs.Asked.{words_asked}
use Rattle.squall_cli_ask.proofs.Answering.{memory_told, sent_answered, sent_told}
use Rattle.squall_cli_ask.proofs.answer.answer_files.Goals as goal

pub returns-in_default-clause-told : goal.returns-in_default-clause-told
returns-in_default-clause-told g c =
    let t = c.tell_fault.ensures.told in
    (t.0, memory_told c.args.ask.now.inquiry (words_asked c.args.ask.now) c.args.files.now c.tell_fault.result t.0 c.tell_fault.ensures.status t.1, t.2)

pub returns-clause-text : goal.returns-clause-text
returns-clause-text g c =
    let is = subst (λ ws. IsAnswerFor c.args.ask.now.inquiry (map string_bytes ws) c.args.files.now c.in-Ok.answer) c.deref.ensures.value c.in-Ok.ensures in
    let sent = c.send_answer.ensures.text in
    (sent.0, sent.1, sent_answered _ _ _ _ is c.send_answer.result sent.0 (sym c.is_aside.ensures ∙ c.if-is_aside.false) sent.2)

pub returns-clause-told : goal.returns-clause-told
returns-clause-told g c =
    let is = subst (λ ws. IsAnswerFor c.args.ask.now.inquiry (map string_bytes ws) c.args.files.now c.in-Ok.answer) c.deref.ensures.value c.in-Ok.ensures in
    let sent = c.send_answer.ensures.text in
    let told = c.send_answer.ensures.told in
    (told.0, sent_told _ _ _ _ is c.send_answer.result sent.0 told.0 (sym c.is_aside.ensures ∙ c.if-is_aside.false) sent.2 told.1, told.2)
