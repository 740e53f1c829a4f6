use Rattle.squall_board.specs.CourseRouteLaws.{one_course as the_law}
use Rattle.squall_board.proofs.route_laws.one_course.Goals as goal

pub returns : goal.returns
returns c = the_law
