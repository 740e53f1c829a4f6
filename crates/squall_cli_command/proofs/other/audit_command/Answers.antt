use Rattle.std.proofs.Common.{ap, ap₂, ◌∙◌, ◌||◌}
use Rattle.std.proofs.lemmas.Result.{IfOk-weaker}
use Rattle.clap.specs.Words.{App, with_rule}
use Rattle.squall_cli_command.proofs.other.audit_command.Goals as goal

pub returns-clause-shape : goal.returns-clause-shape
returns-clause-shape c =
    IfOk-weaker c.arg.result _ _
    (λ r h. ap (λ (a : App). a.top) (h.shape c.words.ensures.global ∙ ap₂ with_rule c.in_ok-of_plans.ensures.app c.words.ensures.rule)) c.arg.ensures

pub returns-clause-globals : goal.returns-clause-globals
returns-clause-globals c =
    IfOk-weaker c.arg.result _ _
    (λ r h. h.globals ∙ ap₂ ◌||◌ c.in_ok-of_plans.ensures.globals c.words.ensures.global) c.arg.ensures
