use Rattle.squall_board.specs.CourseRouteLaws.{taken_route}
use Rattle.squall_board.proofs.route_laws.taken_reports_route.Goals as goal

pub returns : goal.returns
returns c = λ first rs k taken. taken_route first c.args.board.now rs k c.known.ensures.board taken
