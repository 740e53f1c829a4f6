use Rattle.std.proofs.Common.{ap}
use Rattle.squall_course.specs.Change.{Change}
use Rattle.squall_course.proofs.Tabled.{plans_known}
use Rattle.squall_course.proofs.course.Course.old_plan.Goals as goal

pub returns-clause-plans : goal.returns-clause-plans
returns-clause-plans c = plans_known c.args.self.now c.self.inside.old c.self.inside.new (ap (λ (v : Change). v.old) c.self.view_is) (ap (λ (v : Change). v.new) c.self.view_is) c.self.invariant.plans
