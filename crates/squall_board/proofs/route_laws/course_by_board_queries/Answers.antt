use Rattle.squall_board.specs.CourseRouteLaws.{board_course}
use Rattle.squall_board.proofs.route_laws.course_by_board_queries.Goals as goal

pub returns : goal.returns
returns c = λ first. board_course first c.args.board.now c.known.ensures.board
