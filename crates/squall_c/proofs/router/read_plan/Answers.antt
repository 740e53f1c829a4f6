use Rattle.std.specs.Prelude.{List, Result}
use Rattle.std.proofs.Common.{sym, subst}
use Rattle.squall_plan.specs.declared.range.PlanRange.{PlanRange}
use Rattle.squall_plan.specs.Form.{plan_of_text}
use Rattle.squall_c.specs.declared.status.Cause.{Cause}
use Rattle.squall_c.specs.Status.{plan_or_cause, GivesSeen}
use Rattle.squall_c.proofs.Opened.{plan_told}
use Rattle.squall_c.proofs.router.read_plan.Goals as goal

pub returns-clause-plan : goal.returns-clause-plan
returns-clause-plan c =
    let want = plan_of_text c.args.text.now in
    subst (λ (told : Result (List PlanRange) Cause). GivesSeen (λ p. p) told (plan_or_cause c.args.added want)) (sym c.plan_or_cause.ensures.plan)
    (plan_told c.args.added c.read.result want c.read.ensures.answer)
