use Rattle.std.specs.Prelude.{◌<◌, length}
use Rattle.std.proofs.Common.{add-one, arith, ◌∙◌, length-set}
use Rattle.squall_c_values.proofs.Written.{written_more}
use Rattle.squall_c_values.proofs.moves.put_parts.Goals as goal

pub loop-at-preserved : goal.loop-at-preserved
loop-at-preserved c =
    let here : c.loop-at.at < length c.args.parts.now = omega (arith, c.loop-at-test.true, c.min-count.ensures) in
    let room : c.loop-at.at < length c.args.room.now = omega (arith, c.loop-at-test.true, c.min-count.ensures) in (
      rw add-one (written_more (λ p. p) c.args.parts.now c.args.room.now c.loop-at.room c.loop-at.at c.index-parts-at.result c.index-parts-at.result c.get.result here room c.index-parts-at.is c.get.ensures.value c.loop-at.invariant.0),
      length-set c.loop-at.room c.loop-at.at c.get.result ∙ c.loop-at.invariant.1,
    )
