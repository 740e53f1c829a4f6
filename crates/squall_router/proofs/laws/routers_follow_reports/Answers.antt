use Rattle.squall_board.specs.CourseRouteLaws.{taken_course, taken_route}
use Rattle.squall_router.proofs.laws.routers_follow_reports.Goals as goal

pub returns-clause-course : goal.returns-clause-course
returns-clause-course c rs taken = let r = c.args.router.now in taken_course r.first r.board rs c.known.ensures.board taken

pub returns-clause-route : goal.returns-clause-route
returns-clause-route c rs k taken = let r = c.args.router.now in taken_route r.first r.board rs k c.known.ensures.board taken
