use Rattle.std.specs.Prelude.{ℕ, ◌<◌}
use Rattle.std.proofs.Common.{sym, subst, ◌∙◌}
use Rattle.squall_key.specs.Keys.{top}
use Rattle.squall_report.specs.Facts.{reports_say}
use Rattle.squall_board.specs.CourseRoute.{course_of_reports}
use Rattle.squall_headline.specs.Ways.{reports_of, IsSent}
use Rattle.squall_test_acceptance.proofs.tests.routes.part_in_table.Goals as goal

pub returns : goal.returns
returns c ws leads =
    let rs = reports_of ws in
    let below = subst (λ (k : ℕ). k < top) c.rank-rank.ensures.value c.rank-rank.ensures.below in
    let same = c.owner.ensures ∙ c.headline.ensures.entries c.table.result.now c.args.key c.table.ensures below in
    subst (λ (part : ℕ). IsSent (course_of_reports c.args.router.now.first rs) (reports_say rs) c.args.key part) (sym same) (c.headline.ensures.routes ws c.args.key leads below)
