use Rattle.squall_table.specs.TableLaws.{all_in}
use Rattle.squall_router.specs.Routers.{course_of_router}
use Rattle.squall_router.proofs.laws.all_in_is_the_new_plan.Goals as goal

pub returns : goal.returns
returns c ls come is = all_in (course_of_router c.args.router.now) c.args.router.now.board ls c.known.ensures.course.new_canonical come is
