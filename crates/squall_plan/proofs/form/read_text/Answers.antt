use Rattle.squall_plan.proofs.Listed.{text_none}
use Rattle.squall_plan.proofs.form.read_text.Goals as goal

pub returns-in-Err : goal.returns-in-Err
returns-in-Err c = λ ne. text_none c.args.text.now (λ u. absurd (c.in-Err.ensures.cases.0 u))
