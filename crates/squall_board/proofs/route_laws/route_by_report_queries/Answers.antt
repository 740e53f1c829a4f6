use Rattle.squall_board.specs.CourseRouteLaws.{reports_route}
use Rattle.squall_board.proofs.route_laws.route_by_report_queries.Goals as goal

pub returns : goal.returns
returns c = reports_route
