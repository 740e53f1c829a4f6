use Rattle.std.proofs.Common.{◌-◌, ◌∙◌, sym, arith}
use Rattle.std.specs.Arc.{arc_value}
use Rattle.squall_board.specs.NewestLaws.{found_newest}
use Rattle.squall_board.proofs.newest.newest_in.Goals as goal

pub returns-then-is_some : goal.returns-then-is_some
returns-then-is_some c =
    found_newest (λ e. (e.0, arc_value e.1.now)) c.args.low c.loop-at.at (c.loop-at.at - 1) c.args.issues.now c.index-issues-at.result c.one_above-found.result
    (omega (arith, c.loop-at-test.true)) c.loop-at.invariant.0 c.index-issues-at.is c.loop-at.invariant.1 c.one_above-found.ensures (sym c.is_some.ensures ∙ c.if-is_some.true)
