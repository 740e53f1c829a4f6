use Rattle.std.specs.Prelude.{◌≡◌, ℕ, List}
use Rattle.std.proofs.Common.{sym, ap, subst, ◌∙◌}
use Rattle.squall_plan.specs.declared.range.PlanRange.{PlanRange}
use Rattle.squall_plan.specs.Ranges.{owner_of}
use Rattle.squall_report.specs.Facts.{reports_say}
use Rattle.squall_board.specs.CourseRoute.{course_of_reports}
use Rattle.squall_headline.specs.Ways.{reports_of, IsSent}
use Rattle.squall_test_acceptance.proofs.tests.routes.legs_of.Goals as goal

pub returns : goal.returns
returns c ws k leads below =
    let rs = reports_of ws in
    let same = ap (λ (legs : List PlanRange). owner_of legs k) c.entries.ensures.value ∙ c.headline.ensures.entries c.table.result.now k c.table.ensures below in
    subst (λ (part : ℕ). IsSent (course_of_reports c.args.router.now.first rs) (reports_say rs) k part) (sym same) (c.headline.ensures.routes ws k leads below)
