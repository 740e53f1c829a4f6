use Rattle.std.proofs.Common.{take, drop, sym, ◌∙◌}
use Rattle.std.proofs.lemmas.List.{take-append-drop}
use Rattle.squall_cli_ask.proofs.lines.refuse.Goals as goal

pub returns-in-Err-clause-text : goal.returns-in-Err-clause-text
returns-in-Err-clause-text g c =
    let sent = c.in-Err.ensures.err in
    (take sent.0 c.text.result.now, sent.1, (drop sent.0 c.text.result.now, sym c.text.ensures ∙ sym (take-append-drop sent.0 c.text.result.now)))
