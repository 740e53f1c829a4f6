use Rattle.std.proofs.Common.{ap}
use Rattle.squall_course.specs.Change.{Change}
use Rattle.squall_course.proofs.Gathered.{course_moves}
use Rattle.squall_course.proofs.Tabled.{plans_known}
use Rattle.squall_course.proofs.course.Course.moves.Goals as goal

pub returns-clause-meaning : goal.returns-clause-meaning
returns-clause-meaning c =
    course_moves c.args.self.now c.self.inside.old c.self.inside.new c.deref.result.now c.self.inside.moves.items
    (ap (λ (v : Change). v.old) c.self.view_is) (ap (λ (v : Change). v.new) c.self.view_is) c.self.invariant.plans c.self.invariant.listed c.deref.ensures.value

pub returns-clause-plans : goal.returns-clause-plans
returns-clause-plans c = plans_known c.args.self.now c.self.inside.old c.self.inside.new (ap (λ (v : Change). v.old) c.self.view_is) (ap (λ (v : Change). v.new) c.self.view_is) c.self.invariant.plans
