use Rattle.std.proofs.Common.{rules}
use Rattle.std.specs.Arc.{arc_value}
use Rattle.squall_course.specs.Change.{Change}
use Rattle.squall_world_rows.proofs.Going.{first_kept, first_empty}
use Rattle.squall_world_rows.proofs.world.RowWorld.over.Goals as goal

pub invariant_of-result : goal.invariant_of-result
invariant_of-result c =
    let first : Change = arc_value c.args.first.now in
    first_kept first.old first.new c.args.routers c.in_ok-world.world c.new.result.items c.new-2.result.items (search rules) c.in_ok-world.ensures.ok (search rules) (search rules)

pub returns-clause-empty : goal.returns-clause-empty
returns-clause-empty c =
    let first : Change = arc_value c.args.first.now in
    first_empty c.in_ok-world.world c.new.result.items c.new-2.result.items first.old first.new c.args.routers c.in_ok-world.ensures.reached c.in_ok-world.ensures.ok (search rules) (search rules)
