use Rattle.std.proofs.Common.{ap, ap₂, ◌∙◌, ◌++◌, subst}
use Rattle.std.proofs.lemmas.Result.{IfOk-weaker}
use Rattle.squall_cli_boards.specs.Answers.{answer_with}
use Rattle.squall_cli_audit.specs.Audits.{MayShow}
use Rattle.squall_cli_ask.proofs.audit.shown_audit.Goals as goal

pub returns : goal.returns
returns c =
    let shown = c.in_ok-ended.ensures.0 in
    let may = subst (λ fs. MayShow c.args.old.now c.args.new.now fs c.in_ok-ended.ended shown) (c.deref.ensures.value ∙ c.in_ok-logs.ensures) c.in_ok-ended.ensures.2 in
    let text = c.as_str.ensures.value ∙ c.in_ok-ended.ensures.1 ∙ ap (λ b. b ++ shown) c.new-text.ensures.bytes in
    IfOk-weaker c.of_text.result _ _ (λ a h. (c.in_ok-ended.ended, shown, may, h ∙ ap₂ answer_with text c.is_refused.ensures)) c.of_text.ensures
