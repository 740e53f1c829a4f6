-- Laws of two plans that were read: what the answer is if one of them is refused.
use Rattle.std.proofs.Common.{◌≡◌, List, Result, Ok, Err, sym}
use Rattle.std.proofs.lemmas.Option.{none-some, same_Some}
use Rattle.std.specs.Prelude.{codes, Some}
use Rattle.squall_plan.specs.declared.range.PlanRange.{PlanRange}
use Rattle.squall_plan.specs.declared.fault.PlanFault.{PlanFault}
use Rattle.squall_cli_command.specs.declared.form.Form.{Form}
use Rattle.squall_cli_boards.specs.Answers.{AnswerValue, AnswersPlans, refusing_plan}
use Rattle.squall_cli_boards.specs.Plans.{refusal_in}

pub refused_answers : (form : Form) (Shows : List PlanRange → List PlanRange → AnswerValue → Type 0) (old new : Result (List PlanRange) PlanFault) (answer : AnswerValue)
    → refusal_in form old new ≡ Some answer → AnswersPlans form Shows old new answer
refused_answers form Shows (Ok old) (Ok new) answer e = absurd (none-some answer e)
refused_answers form Shows (Ok old) (Err fault) answer e = sym (same_Some (refusing_plan form (codes "new") fault) answer e)
refused_answers form Shows (Err fault) new answer e = sym (same_Some (refusing_plan form (codes "old") fault) answer e)
