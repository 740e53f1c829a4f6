use Rattle.std.proofs.lemmas.Result.{IfOk-weaker}
use Rattle.std.specs.Prelude.{IfOk, List}
use Rattle.std.proofs.Common.{arith, subst}
use Rattle.squall_plan.specs.declared.range.PlanRange.{PlanRange}
use Rattle.squall_plan.specs.Ranges.{owner_of}
use Rattle.squall_table.specs.Tables.{AreLegs}
use Rattle.squall_router.specs.Routers.{route_of_router}
use Rattle.squall_router.proofs.Cut.{table_routes, legs_of_same}
use Rattle.squall_router.proofs.router.Router.route_span.Goals as goal

pub returns-clause-legs : goal.returns-clause-legs
returns-clause-legs c =
    let span = c.args.span.now in
    IfOk-weaker c.legs.result (λ legs. AreLegs (owner_of c.self.inside.table) span.lo span.hi legs.items) (λ legs. AreLegs (route_of_router c.args.self.now) span.lo span.hi legs.items)
    (λ legs are. legs_of_same (owner_of c.self.inside.table) (route_of_router c.args.self.now) span.lo span.hi legs.items (λ k below. table_routes c.args.self.now _ c.self.inside.table c.self.view_is c.self.invariant.table k (omega (arith, below, c.hi.ensures.high))) are)
    (subst (λ (ls : List PlanRange). IfOk c.legs.result (λ legs. AreLegs (owner_of ls) span.lo span.hi legs.items)) c.get.ensures c.legs.ensures)
