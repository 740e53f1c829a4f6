use Rattle.std.specs.Prelude.{◌<◌, length, refl}
use Rattle.std.proofs.Common.{add-one, arith, ◌∙◌, length-set}
use Rattle.squall_plan.specs.Ranges.{owner_of}
use Rattle.squall_c_values.specs.Values.{place_at}
use Rattle.squall_c_values.proofs.Written.{written_more}
use Rattle.squall_c_values.proofs.places.put_places.Goals as goal

pub loop-at-preserved : goal.loop-at-preserved
loop-at-preserved c =
    let here : c.loop-at.at < length c.args.ranks.now = omega (arith, c.loop-at-test.true, c.min-count.ensures) in
    let room : c.loop-at.at < length c.args.room.now = omega (arith, c.loop-at-test.true, c.min-count.ensures) in (
      rw add-one (written_more (place_at c.args.course.now (owner_of c.args.table.now)) c.args.ranks.now c.args.room.now c.loop-at.room c.loop-at.at _ _ c.place_at.result here room refl c.place_at.ensures c.loop-at.invariant.0),
      length-set c.loop-at.room c.loop-at.at c.place_at.result ∙ c.loop-at.invariant.1,
    )
