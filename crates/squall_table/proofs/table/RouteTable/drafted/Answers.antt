use Rattle.std.proofs.Common.{ℕ, List, ap, sym, subst, ◌∙◌}
use Rattle.squall_plan.specs.declared.range.PlanRange.{PlanRange}
use Rattle.squall_table.specs.declared.routes.Heard.TheVariants.{All}
use Rattle.squall_table.specs.LegEntries.{legs_from}
use Rattle.squall_table.specs.Legs.{said}
use Rattle.squall_table.specs.Patching.{IsRenewed}
use Rattle.squall_table.specs.Readiness.{AreLegLists}
use Rattle.squall_table.proofs.Readied.{leg_lists}
use Rattle.squall_table.proofs.table.RouteTable.drafted.Goals as goal

pub invariant_of-result : goal.invariant_of-result
invariant_of-result c =
    let new = legs_from 0 c.renew_runs.new.draft.1 in
    let renewed = subst (λ (es : List (ℕ × ℕ)). IsRenewed c.args.course.now (said All) c.args.spans.now (legs_from 0 es) new) c.of-draft.ensures.after c.in-Ok.ensures.legs in
    subst (λ (ls : List PlanRange). AreLegLists ls new) (sym (ap (legs_from 0) (c.in-Ok.ensures.before ∙ c.of-draft.ensures.before)))
    (leg_lists c.args.course.now (said All) c.args.spans.now (legs_from 0 c.self.inside.legs) new c.know_moves.ensures.meaning c.know_moves.ensures.plans c.self.invariant.0 c.self.invariant.1 renewed)

pub returns-in-Ok-clause-after : goal.returns-in-Ok-clause-after
returns-in-Ok-clause-after c =
    let new = legs_from 0 c.renew_runs.new.draft.1 in
    subst (λ (ls : List PlanRange). IsRenewed c.args.course.now (said All) c.args.spans.now ls new) (ap (legs_from 0) c.of-draft.ensures.after ∙ c.self.view_is) c.in-Ok.ensures.legs
