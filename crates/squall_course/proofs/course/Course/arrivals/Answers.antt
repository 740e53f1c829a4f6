use Rattle.std.proofs.Common.{ap}
use Rattle.squall_course.specs.Change.{Change}
use Rattle.squall_course.specs.Steps.{arriving_place}
use Rattle.squall_course.proofs.Filed.{by_place, filed_arrivals}
use Rattle.squall_course.proofs.course.Course.arrivals.Goals as goal

pub arrivals-requires : goal.arrivals-requires
arrivals-requires c = by_place arriving_place c.self.inside.old c.self.inside.new c.self.inside.arriving.items _ c.self.invariant.plans c.self.invariant.arrived c.deref.ensures.value

pub returns-clause-same : goal.returns-clause-same
returns-clause-same c = λ p. filed_arrivals c.args.self.now c.self.inside.old c.self.inside.new c.self.inside.arriving.items c.deref.result.now c.arrivals.result.now c.args.sub p
    (ap (λ (v : Change). v.old) c.self.view_is) (ap (λ (v : Change). v.new) c.self.view_is) c.self.invariant.arrived c.deref.ensures.value c.arrivals.ensures.value
