-- Two plans that were read, seen as the definitions see them (this project).
use Rattle.std.specs.Prelude.{◌≡◌, List, Option, None, Some, Result, Ok, Err, codes}
use Rattle.squall_plan.specs.declared.range.PlanRange.{PlanRange}
use Rattle.squall_plan.specs.declared.fault.PlanFault.{PlanFault}
use Rattle.squall_cli_command.specs.declared.form.Form.{Form}
use Rattle.squall_cli_boards.specs.Answers.{AnswerValue, refusing_plan}

-- what refuses the old plan in the form, or else the new one
abbrev pub refusal_in : Form → Result (List PlanRange) PlanFault → Result (List PlanRange) PlanFault → Option AnswerValue
refusal_in form (Ok old) (Ok new) = None
refusal_in form (Ok old) (Err fault) = Some (refusing_plan form (codes "new") fault)
refusal_in form (Err fault) new = Some (refusing_plan form (codes "old") fault)

-- both are the plans, or the answer in the form refuses one of them
abbrev pub ArePlansReadIn : Form → Result (List PlanRange × List PlanRange) AnswerValue → Result (List PlanRange) PlanFault → Result (List PlanRange) PlanFault → Type 0
ArePlansReadIn form (Ok plans) old new = (old ≡ Ok plans.0) × (new ≡ Ok plans.1)
ArePlansReadIn form (Err answer) old new = refusal_in form old new ≡ Some answer
