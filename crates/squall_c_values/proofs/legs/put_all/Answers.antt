use Rattle.std.specs.Prelude.{◌<◌, length}
use Rattle.std.proofs.Common.{add-one, arith, ◌∙◌, length-set}
use Rattle.squall_c_values.specs.Values.{c_leg}
use Rattle.squall_c_values.proofs.Written.{written_more}
use Rattle.squall_c_values.proofs.legs.put_all.Goals as goal

pub loop-at-preserved : goal.loop-at-preserved
loop-at-preserved c =
    let here : c.loop-at.at < length c.args.ranges.now = omega (arith, c.loop-at-test.true, c.min-count.ensures) in
    let room : c.loop-at.at < length c.args.room.now = omega (arith, c.loop-at-test.true, c.min-count.ensures) in (
      rw add-one (written_more c_leg c.args.ranges.now c.args.room.now c.loop-at.room c.loop-at.at c.index-ranges-at.result c.index-ranges-at.result c.leg_of.result here room c.index-ranges-at.is c.leg_of.ensures c.loop-at.invariant.0),
      length-set c.loop-at.room c.loop-at.at c.leg_of.result ∙ c.loop-at.invariant.1,
    )
