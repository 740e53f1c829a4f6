-- What was found if a plan is refused.
use Rattle.std.proofs.Common.{◌≡◌, List, Result, Ok, Err, ap}
use Rattle.std.proofs.lemmas.Option.{none-some, same_Some}
use Rattle.std.specs.Prelude.{codes, Some}
use Rattle.squall_plan.specs.declared.range.PlanRange.{PlanRange}
use Rattle.squall_plan.specs.declared.fault.PlanFault.{PlanFault}
use Rattle.squall_cli_command.specs.declared.form.Form.{Form}
use Rattle.squall_cli_boards.specs.Files.{FileValue}
use Rattle.squall_cli_boards.specs.Answers.{AnswerValue, refusing_plan}
use Rattle.squall_cli_boards.specs.Plans.{refusal_in}
use Rattle.squall_cli_boards.specs.Known.{newest_of_texts}

pub refused_found : (form : Form) (old new : Result (List PlanRange) PlanFault) (files : List FileValue) (answer : AnswerValue)
    → refusal_in form old new ≡ Some answer → newest_of_texts form old new files ≡ Err answer
refused_found form (Ok old) (Ok new) files answer e = absurd (none-some answer e)
refused_found form (Ok old) (Err fault) files answer e = ap Err (same_Some (refusing_plan form (codes "new") fault) answer e)
refused_found form (Err fault) new files answer e = ap Err (same_Some (refusing_plan form (codes "old") fault) answer e)
