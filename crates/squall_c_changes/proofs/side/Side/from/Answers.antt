use Rattle.std.specs.Prelude.{◌<◌}
use Rattle.std.proofs.Common.{sym, subst, ◌∙◌, arith}
use Rattle.squall_key.specs.Keys.{top}
use Rattle.squall_plan.specs.Ranges.{owner_of}
use Rattle.squall_c_changes.specs.Walks.{AreLeft}
use Rattle.squall_c_changes.proofs.Passing.{left_of_table, some_left}
use Rattle.squall_c_changes.proofs.side.Side.from.Goals as goal

pub unreachable-requires : goal.unreachable-requires
unreachable-requires c =
    let below : c.args.key < top = omega (arith, c.rank-rank.ensures.below, c.rank-rank.ensures.value) in
    some_left _ _ _ (left_of_table c.args.key c.args.table.now c.entries_from-rest.ensures.canonical below) below
    (sym c.entries_from-rest.ensures.legs ∙ c.in_default.ensures.steps.0)

pub returns : goal.returns
returns c =
    let below : c.args.key < top = omega (arith, c.rank-rank.ensures.below, c.rank-rank.ensures.value) in
    subst (AreLeft (owner_of c.args.table.now) c.args.key) (sym c.entries_from-rest.ensures.legs ∙ c.in-Some.ensures.steps)
    (left_of_table c.args.key c.args.table.now c.entries_from-rest.ensures.canonical below)
