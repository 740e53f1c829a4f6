use Rattle.std.proofs.Common.{◌≡◌, Err, true, false, sym, ap, ◌∙◌, refl}
use Rattle.json.specs.Lex.{tokens}
use Rattle.squall_plan.specs.Shown.{is_readable}
use Rattle.squall_plan.proofs.Tapes.{of_some, read_some, read_none, read_refused}
use Rattle.squall_plan.proofs.tape.read_tape.Goals as goal

pub returns-in-Err-Invalid-clause-fault : goal.returns-in-Err-Invalid-clause-fault
returns-in-Err-Invalid-clause-fault c = λ ne. (refl, read_refused c.args.text.now (c.parse.ensures.invalid (c.in-Err-Invalid.is ∙ ap Err c.in-Err-Invalid.field-0-is)))

pub returns-then-are_readable-clause-shown : goal.returns-then-are_readable-clause-shown
returns-then-are_readable-clause-shown c =
    let text = c.args.text.now in
    let whole = of_some _ c.in-Ok.ensures.ok.1 in
    let readable : is_readable 127 (tokens text) ≡ true = ap (is_readable 127) (sym c.in-Ok.ensures.ok.0 ∙ sym c.nodes.ensures.tokens) ∙ sym c.are_readable.ensures ∙ c.if-are_readable.true in
    let r = read_some text whole.0 whole.1 readable in
    (r.0, r.2, (whole.0, c.in-Ok.ensures.value whole.0 whole.1, r.1))

pub returns-clause-fault : goal.returns-clause-fault
returns-clause-fault c = λ ne.
    let text = c.args.text.now in
    let whole = of_some _ c.in-Ok.ensures.ok.1 in
    let unreadable : is_readable 127 (tokens text) ≡ false = ap (is_readable 127) (sym c.in-Ok.ensures.ok.0 ∙ sym c.nodes.ensures.tokens) ∙ sym c.are_readable.ensures ∙ c.if-are_readable.false in
    (refl, read_none text whole.0 whole.1 unreadable)
