use Rattle.std.proofs.Common.{◌++◌, ◌∙◌}
use Rattle.std.specs.Prelude.{string_bytes}
use Rattle.std.proofs.lemmas.Result.{on_ok_weaker}
use Rattle.squall_picture.specs.Scale.{filled}
use Rattle.squall_picture.specs.Bands.{parts_text}
use Rattle.squall_picture.proofs.bands.add_shape.Goals as goal

pub returns : goal.returns
returns c = on_ok_weaker c.add_parts.result (λ e. e ∙ (λ i. string_bytes c.args.out.now ++ parts_text (c.colour_of-colour.ensures.value i) c.args.x c.args.width ((c.filled-fill.ensures ∙ (λ j. filled c.args.width (c.loaded-loaded.ensures j) (c.keys-keys.ensures.value j))) i) c.args.opened c.args.status.now.moving.sub)) c.add_parts.ensures
