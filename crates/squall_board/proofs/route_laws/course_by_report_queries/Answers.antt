use Rattle.squall_board.specs.CourseRouteLaws.{reports_course}
use Rattle.squall_board.proofs.route_laws.course_by_report_queries.Goals as goal

pub returns : goal.returns
returns c = reports_course
