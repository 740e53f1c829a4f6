use Rattle.std.proofs.Common.{Err, ap, ◌∙◌}
use Rattle.squall_c_leaders.proofs.Leaving.{left_by_spans, many_by_spans, passed_on}
use Rattle.squall_c_leaders.proofs.left.left_text.Goals as goal

pub returns-in_err-plan-clause-many : goal.returns-in_err-plan-clause-many
returns-in_err-plan-clause-many c = λ refused plan.
    many_by_spans c.args.course.now c.in_ok-keys.keys c.args.loaded.now plan c.in_ok-keys.ensures.keys (c.left.ensures.many
    (c.in_err-plan.was ∙ ap Err (passed_on c.from_residual-in_err-plan.result c.in_err-plan.field-0.0 c.from_residual-in_err-plan.ensures.1 refused)))

pub returns-clause-text : goal.returns-clause-text
returns-clause-text c = record {
  plan = c.in_ok-plan.plan;
  left = left_by_spans c.args.course.now c.in_ok-keys.keys c.args.loaded.now c.in_ok-plan.plan c.in_ok-keys.ensures.keys c.in_ok-plan.ensures.ok;
  spelled = c.in_ok-plan_text.ensures.text;
  reads = c.in_ok-plan_text.ensures.reads;
}
