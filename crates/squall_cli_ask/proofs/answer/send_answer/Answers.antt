use Rattle.std.proofs.Common.{[], inr, take, drop, sym, ◌∙◌}
use Rattle.std.proofs.lemmas.List.{take-append-drop}
use Rattle.squall_cli_lines.specs.declared.RunFault.TheVariants.{Write}
use Rattle.squall_cli_ask.proofs.Answering.{answer_untold, says_nothing}
use Rattle.squall_cli_ask.proofs.Telling.{fault_goes}
use Rattle.squall_cli_ask.proofs.answer.send_answer.Goals as goal

pub returns-in-Ok-clause-told : goal.returns-in-Ok-clause-told
returns-in-Ok-clause-told g c =
    ([], answer_untold c.args.inquiry c.args.answer.now c.status_of.result c.status_of.ensures, says_nothing (g.E.Sink.state c.args.err.now))

pub returns-in-Err-clause-text : goal.returns-in-Err-clause-text
returns-in-Err-clause-text g c =
    let sent = c.in-Err.ensures.err in
    let text = c.text.result.now in
    (take sent.0 text, sent.1, inr (c.tell_fault.ensures.status, (drop sent.0 text, sym c.text.ensures ∙ sym (take-append-drop sent.0 text))))

pub returns-in-Err-clause-told : goal.returns-in-Err-clause-told
returns-in-Err-clause-told g c = fault_goes _ c.tell_fault.result _ _ Write c.tell_fault.ensures.status c.tell_fault.ensures.told
