use Rattle.squall_board.specs.CourseRouteLaws.{taken_course}
use Rattle.squall_board.proofs.route_laws.course_of_taken_reports.Goals as goal

pub returns : goal.returns
returns c = λ first rs taken. taken_course first c.args.board.now rs c.known.ensures.board taken
