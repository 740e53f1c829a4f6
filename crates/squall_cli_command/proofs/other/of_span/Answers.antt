use Rattle.std.proofs.Common.{ap₂, ◌∙◌, ◌||◌}
use Rattle.std.proofs.lemmas.Result.{IfOk-weaker}
use Rattle.clap.specs.Words.{with_rule}
use Rattle.squall_cli_command.proofs.other.of_span.Goals as goal

pub returns-clause-app : goal.returns-clause-app
returns-clause-app c =
    let first = c.in_ok-arg.ensures.shape c.file.ensures.global ∙ ap₂ with_rule c.described.ensures.app c.file.ensures.rule in
    let second = c.in_ok-arg-2.ensures.shape c.file-2.ensures.global ∙ ap₂ with_rule first c.file-2.ensures.rule in
    IfOk-weaker c.arg-3.result _ _
    (λ r h. h.shape c.file-3.ensures.global ∙ ap₂ with_rule second c.file-3.ensures.rule) c.arg-3.ensures

pub returns-clause-globals : goal.returns-clause-globals
returns-clause-globals c =
    let first = c.in_ok-arg.ensures.globals ∙ ap₂ ◌||◌ c.described.ensures.globals c.file.ensures.global in
    let second = c.in_ok-arg-2.ensures.globals ∙ ap₂ ◌||◌ first c.file-2.ensures.global in
    IfOk-weaker c.arg-3.result _ _ (λ r h. h.globals ∙ ap₂ ◌||◌ second c.file-3.ensures.global) c.arg-3.ensures
