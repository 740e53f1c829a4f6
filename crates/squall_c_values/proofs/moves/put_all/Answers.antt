use Rattle.std.specs.Prelude.{◌<◌, length}
use Rattle.std.proofs.Common.{add-one, arith, ◌∙◌, length-set}
use Rattle.squall_c_values.specs.Values.{c_move}
use Rattle.squall_c_values.proofs.Written.{written_more}
use Rattle.squall_c_values.proofs.moves.put_all.Goals as goal

pub loop-at-preserved : goal.loop-at-preserved
loop-at-preserved c =
    let here : c.loop-at.at < length c.args.moves.now = omega (arith, c.loop-at-test.true, c.min-count.ensures) in
    let room : c.loop-at.at < length c.args.room.now = omega (arith, c.loop-at-test.true, c.min-count.ensures) in (
      rw add-one (written_more c_move c.args.moves.now c.args.room.now c.loop-at.room c.loop-at.at c.index-moves-at.result c.index-moves-at.result c.move_of.result here room c.index-moves-at.is c.move_of.ensures c.loop-at.invariant.0),
      length-set c.loop-at.room c.loop-at.at c.move_of.result ∙ c.loop-at.invariant.1,
    )
