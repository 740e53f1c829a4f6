use Rattle.std.proofs.Common.{◌∙◌, sym, ap}
use Rattle.squall_course.specs.Change.{Change}
use Rattle.squall_course.proofs.Places.{sub_known}
use Rattle.squall_course.proofs.course.Course.owners.Goals as goal

pub returns-clause-sub : goal.returns-clause-sub
returns-clause-sub c =
    sub_known c.args.self.now c.self.inside.old c.self.inside.new c.self.inside.table c.args.key _ _ _
    (ap (λ (v : Change). v.old) c.self.view_is) (ap (λ (v : Change). v.new) c.self.view_is) c.self.invariant.plans c.self.invariant.linked
    (rw c.rank.ensures.value at c.rank.ensures.below) c.old_owner-old.ensures c.new_owner-new.ensures (sym c.eq.ensures ∙ c.if-eq.false) c.sub.ensures
