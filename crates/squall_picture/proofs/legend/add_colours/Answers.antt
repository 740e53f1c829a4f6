use Rattle.std.specs.Prelude.{string_bytes}
use Rattle.std.proofs.Common.{◌∙◌}
use Rattle.squall_picture.specs.Frame.{swatch_text}
use Rattle.squall_picture.proofs.Swatches.{swatches_more}
use Rattle.squall_picture.proofs.legend.add_colours.Goals as goal

pub loop-colour-preserved : goal.loop-colour-preserved
loop-colour-preserved c =
    let f = swatch_text c.args.old.now c.args.new.now in
    let more = swatches_more f (string_bytes c.args.out.now) (string_bytes c.loop-colour.out) c.loop-colour.colour c.loop-colour.invariant in
    c.in_ok-add_swatch.ensures ∙ more
