use Rattle.std.proofs.Common.{◌≡◌, Some, ap, arith}
use Rattle.std.specs.List.{slice_get}
use Rattle.std.proofs.lemmas.Grind.{common_steps}
use Rattle.std.proofs.lemmas.Option.{gets}
use Rattle.squall_course.specs.Change.{Change}
use Rattle.squall_course.proofs.Tabled.{dest_by_row}
use Rattle.squall_course.proofs.course.Course.dest.Goals as goal

pub returns : goal.returns
returns c =
    let found : slice_get c.row.result.now c.args.sub ≡ Some c.in_ok-link.link.now = grind (arith, common_steps, gets) in
    dest_by_row c.args.self.now c.self.inside.old c.self.inside.new c.self.inside.table c.row.result.now c.args.part c.args.sub _
    (ap (λ (v : Change). v.old) c.self.view_is) (ap (λ (v : Change). v.new) c.self.view_is) c.self.invariant.linked c.row.ensures.value found
