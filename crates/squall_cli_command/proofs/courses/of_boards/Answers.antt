use Rattle.std.proofs.Common.{ap₂, ◌∙◌, ◌||◌}
use Rattle.std.proofs.lemmas.Result.{IfOk-weaker}
use Rattle.clap.specs.Words.{with_rule}
use Rattle.squall_cli_command.proofs.courses.of_boards.Goals as goal

pub returns-clause-app : goal.returns-clause-app
returns-clause-app c =
    let first = c.in_ok-arg.ensures.shape c.files.ensures.global ∙ ap₂ with_rule c.in_ok-of_plans.ensures.app c.files.ensures.rule in
    IfOk-weaker c.arg-2.result _ _
    (λ r h. h.shape c.option.ensures.global ∙ ap₂ with_rule first c.option.ensures.rule) c.arg-2.ensures

pub returns-clause-globals : goal.returns-clause-globals
returns-clause-globals c =
    let first = c.in_ok-arg.ensures.globals ∙ ap₂ ◌||◌ c.in_ok-of_plans.ensures.globals c.files.ensures.global in
    IfOk-weaker c.arg-2.result _ _ (λ r h. h.globals ∙ ap₂ ◌||◌ first c.option.ensures.global) c.arg-2.ensures
