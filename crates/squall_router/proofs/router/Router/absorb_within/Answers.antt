use Rattle.std.proofs.Common.{sym, subst}
use Rattle.squall_board.specs.Takes.{TakesBoard}
use Rattle.squall_router.specs.Routers.{RouterValue}
use Rattle.squall_router.proofs.router.Router.absorb_within.Goals as goal

pub returns-clause-takes : goal.returns-clause-takes
returns-clause-takes c = subst (λ (r : RouterValue). TakesBoard c.args.self.now.board c.args.delta.now r.board) (sym c.self.view_is) c.in_ok-absorb.ensures.takes
