use Rattle.std.proofs.Common.{ap, ap₂, ◌∙◌, ◌||◌}
use Rattle.std.proofs.lemmas.Result.{IfOk-weaker}
use Rattle.clap.specs.Words.{App, with_rule}
use Rattle.squall_cli_command.proofs.courses.route_command.Goals as goal

pub returns-clause-shape : goal.returns-clause-shape
returns-clause-shape c =
    let first = c.in_ok-arg.ensures.shape c.files.ensures.global ∙ ap₂ with_rule c.in_ok-of_plans.ensures.app c.files.ensures.rule in
    let second = c.in_ok-arg-2.ensures.shape c.option.ensures.global ∙ ap₂ with_rule first c.option.ensures.rule in
    IfOk-weaker c.arg-3.result _ _
    (λ r h. ap (λ (a : App). a.top) (h.shape c.flag.ensures.global ∙ ap₂ with_rule second c.flag.ensures.rule)) c.arg-3.ensures

pub returns-clause-globals : goal.returns-clause-globals
returns-clause-globals c =
    let first = c.in_ok-arg.ensures.globals ∙ ap₂ ◌||◌ c.in_ok-of_plans.ensures.globals c.files.ensures.global in
    let second = c.in_ok-arg-2.ensures.globals ∙ ap₂ ◌||◌ first c.option.ensures.global in
    IfOk-weaker c.arg-3.result _ _ (λ r h. h.globals ∙ ap₂ ◌||◌ second c.flag.ensures.global) c.arg-3.ensures
