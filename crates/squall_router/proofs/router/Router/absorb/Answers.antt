use Rattle.std.specs.Prelude.{refl}
use Rattle.std.proofs.Common.{subst}
use Rattle.squall_report.specs.Told.{TellsAll}
use Rattle.squall_board.specs.Boards.{IsBoard, told}
use Rattle.squall_router.specs.Routers.{RouterValue}
use Rattle.squall_router.proofs.Already.{known_board_stays}
use Rattle.squall_router.proofs.Absorbed.{took_delta, turned}
use Rattle.squall_router.proofs.router.Router.absorb.Goals as goal

pub returns-then-tells_small-clause-takes : goal.returns-then-tells_small-clause-takes
returns-then-tells_small-clause-takes c =
    known_board_stays c.args.self.now.board c.args.delta.now (subst (λ (r : RouterValue). IsBoard r.board) c.self.view_is c.known.ensures.board) c.known-2.ensures.board
    (subst (λ (r : RouterValue). TellsAll (told r.board) (told c.args.delta.now)) c.self.view_is (c.tells_small.ensures c.if-tells_small.true))

pub returns-then-is_some-clause-takes : goal.returns-then-is_some-clause-takes
returns-then-is_some-clause-takes c = took_delta c.take_up.result c.take_up.new.self.board c.self.inside.board c.args.delta.now c.args.delta.now c.args.self.now c.self.inside.first c.self.view_is c.known.ensures.board c.known-2.ensures.board c.known-2.ensures.board refl (turned c.take_up.result c.take_up.new.self c.args.self.now c.self.inside.board c.args.delta.now c.self.inside.first c.self.view_is c.take_up.ensures.ok)

pub returns-clause-takes : goal.returns-clause-takes
returns-clause-takes c = took_delta c.take_up-2.result c.take_up-2.new.self.board c.self.inside.board c.in_ok-news.news c.args.delta.now c.args.self.now c.self.inside.first c.self.view_is c.known.ensures.board c.known-3.ensures.board c.known-2.ensures.board c.in_ok-news.ensures.joined (turned c.take_up-2.result c.take_up-2.new.self c.args.self.now c.self.inside.board c.in_ok-news.news c.self.inside.first c.self.view_is c.take_up-2.ensures.ok)
