use Rattle.squall_cli_command.proofs.Commands.{is_added}
use Rattle.squall_cli_command.proofs.parser.with_runs.Goals as goal

pub returns : goal.returns
returns c =
    let first = is_added _ _ c.with_plans.result c.run_command.result c.added.result
    c.added.ensures c.with_plans.ensures c.run_command.ensures.shape in
    is_added _ _ c.added.result c.race_command.result c.added-2.result c.added-2.ensures first c.race_command.ensures.shape
