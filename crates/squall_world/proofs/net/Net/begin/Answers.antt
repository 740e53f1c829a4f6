use Rattle.std.proofs.Common.{◌≡◌, List, ap, ◌∙◌, rules}
use Rattle.squall_plan.specs.declared.range.PlanRange.{PlanRange}
use Rattle.squall_course.specs.Change.{Change}
use Rattle.squall_world.specs.Nets.{newest_of}
use Rattle.squall_world.proofs.Begun.{done_is, begun_after}
use Rattle.squall_world.proofs.net.Net.begin.Goals as goal

pub returns : goal.returns
returns c =
    let old : c.new_plan.result.now ≡ (newest_of c.args.self.now).new = c.new_plan.ensures.value ∙ ap (λ (d : Change). d.new) (c.deref.ensures ∙ c.in_ok-newest.ensures ∙ c.newest_shared.ensures) in
    begun_after c.args.self.now _ c.new_plan.result.now c.args.plan.now c.begin_course.result old
    (done_is c.args.self.now c.index.result.now c.finished.result c.requires (search rules) c.finished.ensures (search rules)) c.begin_course.ensures
