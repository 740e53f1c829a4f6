use Rattle.std.proofs.Common.{refl, subst, arith}
use Rattle.squall_table.specs.Legs.{FirstMove}
use Rattle.squall_table.proofs.Loaded.{comes_to}
use Rattle.squall_table.proofs.single.move_of.Goals as goal

pub returns-clause-dest : goal.returns-clause-dest
returns-clause-dest c =
    comes_to c.args.moves.now c.args.span c.first_move-at.result c.index-moves-at.result.dest c.index-moves-at.result (subst (λ b. FirstMove c.args.moves.now b c.first_move-at.result) c.lo.ensures.value c.first_move-at.ensures) c.if-at-moves.false c.index-moves-at.is
    (omega (arith, c.if-rank.false, c.lo-2.ensures.value, c.rank.ensures.value, c.lo-3.ensures.value, c.rank-2.ensures.value))
    (omega (arith, c.if-rank-2.false, c.hi.ensures.value, c.rank-else-rank.ensures.value, c.hi-else-rank.ensures.value, c.rank-else-rank-2.ensures.value)) refl
