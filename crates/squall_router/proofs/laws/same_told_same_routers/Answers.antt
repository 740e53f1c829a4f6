use Rattle.std.proofs.Common.{ap}
use Rattle.squall_router.specs.Routers.{RouterValue, route_of_router}
use Rattle.squall_router.proofs.Alike.{same_routers, same_tables}
use Rattle.squall_router.proofs.laws.same_told_same_routers.Goals as goal

pub returns-clause-value : goal.returns-clause-value
returns-clause-value c firsts same = same_routers c.args.one.now c.args.other.now c.known.ensures.board c.known-2.ensures.board firsts same

pub returns-clause-routes : goal.returns-clause-routes
returns-clause-routes c firsts same k = ap (λ (r : RouterValue). route_of_router r k) (same_routers c.args.one.now c.args.other.now c.known.ensures.board c.known-2.ensures.board firsts same)

pub returns-clause-tables : goal.returns-clause-tables
returns-clause-tables c firsts same = same_tables c.args.one.now c.args.other.now (same_routers c.args.one.now c.args.other.now c.known.ensures.board c.known-2.ensures.board firsts same)
