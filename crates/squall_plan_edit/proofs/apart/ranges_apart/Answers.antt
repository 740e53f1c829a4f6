use Rattle.std.proofs.Common.{List, sym, subst}
use Rattle.std.proofs.lemmas.Result.{IfOk-weaker}
use Rattle.squall_plan.specs.declared.range.PlanRange.{PlanRange}
use Rattle.squall_plan.specs.Ranges.{IsCanonical, AreRanges}
use Rattle.squall_course.specs.Change.{Change}
use Rattle.squall_course.specs.Moves.{AreMoves}
use Rattle.squall_plan_edit.specs.Moved.{owner_after, HasOwners}
use Rattle.squall_plan_edit.proofs.Led.{leads}
use Rattle.squall_plan_edit.proofs.apart.ranges_apart.Goals as goal

pub returns-clause-leads : goal.returns-clause-leads
returns-clause-leads c =
    let old : List PlanRange = c.args.old.now in
    let new : List PlanRange = c.args.new.now in
    let is = c.ranges-ranges.ensures in
    let canonical : IsCanonical new = subst IsCanonical is.value is.canonical in
    let ranges : AreRanges new = subst AreRanges is.value is.ranges in
    let are : AreMoves old new c.moves.result.now = subst (λ (course : Change). AreMoves course.old course.new c.moves.result.now) c.in_ok-course.ensures.course c.moves.ensures.meaning in
    IfOk-weaker c.ranges_of.result _ _
    (λ given same. subst (λ (rs : List PlanRange). HasOwners (owner_after rs old) new) (sym same) (leads old new c.moves.result.now canonical ranges are)) c.ranges_of.ensures
