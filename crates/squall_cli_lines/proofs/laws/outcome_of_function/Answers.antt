use Rattle.squall_cli_lines.proofs.Functions.{outcome_of_function}
use Rattle.squall_cli_lines.proofs.laws.outcome_of_function.Goals as goal

pub returns : goal.returns
returns c = λ script by_line result read written o. outcome_of_function script by_line result read written o
