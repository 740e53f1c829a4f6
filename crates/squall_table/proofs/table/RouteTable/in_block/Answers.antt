use Rattle.std.proofs.Common.{[], ◌∷◌, List, ap, sym, subst, ◌∙◌}
use Rattle.std.specs.Prelude.{IfOk}
use Rattle.squall_plan.specs.declared.range.PlanRange.{PlanRange}
use Rattle.squall_table.specs.declared.routes.Heard.TheVariants.{All}
use Rattle.squall_table.specs.LegEntries.{legs_from}
use Rattle.squall_table.specs.Legs.{said}
use Rattle.squall_table.specs.Patching.{IsRenewed}
use Rattle.squall_table.specs.Readiness.{AreLegLists}
use Rattle.squall_table.proofs.Readied.{leg_lists}
use Rattle.squall_table.proofs.table.RouteTable.in_block.Goals as goal

pub invariant_of-result : goal.invariant_of-result
invariant_of-result c =
    let new = legs_from 0 c.in-Ok.ready.1 in
    subst (λ (ls : List PlanRange). AreLegLists ls new) (sym (ap (legs_from 0) c.in-Ok.ensures.before))
    (leg_lists c.args.course.now (said All) (c.args.load.span ∷ []) (legs_from 0 c.self.inside.legs) new c.know_moves.ensures.meaning c.know_moves.ensures.plans c.self.invariant.0 c.self.invariant.1 c.in-Ok.ensures.after)

pub returns-in-Ok-clause-after : goal.returns-in-Ok-clause-after
returns-in-Ok-clause-after c =
    subst (λ (ls : List PlanRange). IsRenewed c.args.course.now (said All) (c.args.load.span ∷ []) ls (legs_from 0 c.in-Ok.ready.1)) c.self.view_is c.in-Ok.ensures.after

pub returns-in-Spread-clause-after : goal.returns-in-Spread-clause-after
returns-in-Spread-clause-after c =
    subst (λ (ls : List PlanRange). IfOk c.drafted.result (λ r. IsRenewed c.args.course.now (said All) (c.args.load.span ∷ []) ls r.after)) (ap (legs_from 0) c.in-Err.ensures.err ∙ c.self.view_is) c.drafted.ensures.after
