use Rattle.std.proofs.Common.{ap}
use Rattle.std.proofs.lemmas.Result.{IfOk-weaker}
use Rattle.clap.specs.Words.{App}
use Rattle.squall_cli_command.proofs.other.diff_command.Goals as goal

pub returns-clause-shape : goal.returns-clause-shape
returns-clause-shape c = IfOk-weaker c.of_plans.result _ _ (λ r h. ap (λ (a : App). a.top) h) c.of_plans.ensures.app
