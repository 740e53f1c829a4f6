use Rattle.std.proofs.Common.{◌++◌, take}
use Rattle.std.specs.Prelude.{reverse}
use Rattle.squall_plan_edit.proofs.Given.{given_more}
use Rattle.squall_plan_edit.proofs.edit.held_at.Goals as goal

pub loop-range-preserved : goal.loop-range-preserved
loop-range-preserved c =
    let given = c.args.given.now in
    let i = c.loop-range.range-index in
    given_more given c.args.old.now i c.range-item.result c.covered-held.result c.args.at c.loop-range-test.true c.range-item.is
    (c.covered-held.ensures (reverse (take i given) ++ c.args.old.now) c.loop-range.invariant)
