use Rattle.std.proofs.Common.{ap, ap₂, ◌∙◌, ◌||◌}
use Rattle.std.proofs.lemmas.Result.{IfOk-weaker}
use Rattle.clap.specs.Words.{App, with_rule}
use Rattle.squall_cli_command.proofs.other.split_command.Goals as goal

pub returns-clause-shape : goal.returns-clause-shape
returns-clause-shape c =
    let first = c.in_ok-arg.ensures.shape c.file.ensures.global ∙ ap₂ with_rule c.described.ensures.app c.file.ensures.rule in
    IfOk-weaker c.arg-2.result _ _
    (λ r h. ap (λ (a : App). a.top) (h.shape c.words.ensures.global ∙ ap₂ with_rule first c.words.ensures.rule)) c.arg-2.ensures

pub returns-clause-globals : goal.returns-clause-globals
returns-clause-globals c =
    let first = c.in_ok-arg.ensures.globals ∙ ap₂ ◌||◌ c.described.ensures.globals c.file.ensures.global in
    IfOk-weaker c.arg-2.result _ _ (λ r h. h.globals ∙ ap₂ ◌||◌ first c.words.ensures.global) c.arg-2.ensures
