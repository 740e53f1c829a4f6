use Rattle.squall_board.specs.MovesRouteLaws.{route_by_moves_is}
use Rattle.squall_board.proofs.route_laws.moves_give_the_route.Goals as goal

pub returns : goal.returns
returns c = route_by_moves_is
