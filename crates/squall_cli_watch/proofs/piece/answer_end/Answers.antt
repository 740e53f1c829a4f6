use Rattle.std.proofs.Common.{take, drop, sym, ◌∙◌}
use Rattle.std.proofs.lemmas.List.{take-append-drop}
use Rattle.squall_cli_watch.proofs.Front.{some_left}
use Rattle.squall_cli_watch.proofs.piece.answer_end.Goals as goal

pub returns-in-Err-clause-text : goal.returns-in-Err-clause-text
returns-in-Err-clause-text g c =
    let text = c.unfinished.result.now in
    let sent = c.in-Err.ensures.err in
    (take sent.0 text, sent.1, (some_left c.args.waiting.now c.is_empty.result c.is_empty.ensures c.if-is_empty.false, (drop sent.0 text, sym c.unfinished.ensures ∙ sym (take-append-drop sent.0 text))))
