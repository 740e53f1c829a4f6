use Rattle.squall_board.specs.CourseRouteLaws.{board_routes}
use Rattle.squall_board.proofs.route_laws.route_by_board_queries.Goals as goal

pub returns : goal.returns
returns c = λ first k. board_routes first c.args.board.now k c.known.ensures.board
