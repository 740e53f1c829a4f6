use Rattle.std.proofs.Common.{◌∙◌}
use Rattle.std.specs.Prelude.{string_bytes}
use Rattle.squall_picture.specs.Bands.{band_text}
use Rattle.squall_picture.proofs.Texts.{added_next}
use Rattle.squall_picture.proofs.bands.add_bands.Goals as goal

pub loop-status-preserved : goal.loop-status-preserved
loop-status-preserved c = added_next (band_text c.args.axis.now c.args.subplans.now) c.args.moves.now c.loop-status.status-index c.status-item.result (string_bytes c.loop-status.out) (string_bytes c.add_band.new.out) c.loop-status-test.true c.status-item.is c.in_ok-add_band.ensures ∙ c.loop-status.invariant
