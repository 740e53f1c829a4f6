use Rattle.std.specs.Prelude.{◌≡◌, []}
use Rattle.std.proofs.Common.{sym, ap, ◌∙◌}
use Rattle.squall_board.specs.Boards.{BoardValue, IsBoard}
use Rattle.squall_wire.specs.Hearing.{FeedValue}
use Rattle.squall_router.specs.Routers.{router_with}
use Rattle.squall_c_frames.specs.JoinedLaws.{join_after}
use Rattle.squall_c.specs.declared.router.Station.{Station}
use Rattle.squall_c.specs.Feeding.{heard_station}
use Rattle.squall_c.proofs.feeding.wait_on.Goals as goal

-- no message changes no board
waits_on : (s : Station) (new end : FeedValue) → IsBoard s.router.board → new ≡ end → record s { feed = new } ≡ heard_station s [] end
waits_on s new end is e =
    ap (λ (f : FeedValue). record s { feed = f }) e
    ∙ ap (λ (b : BoardValue). record s { router = router_with s.router.first b; feed = end }) (sym (join_after s.router.board is))

pub returns-clause-heard : goal.returns-clause-heard
returns-clause-heard c = waits_on c.args.station.now _ c.args.ahead c.known.ensures.board c.in_ok-follow.ensures.taken
