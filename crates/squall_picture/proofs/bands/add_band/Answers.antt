use Rattle.std.proofs.Common.{◌++◌, ◌∙◌, ap}
use Rattle.std.specs.Prelude.{string_bytes}
use Rattle.std.proofs.lemmas.Result.{on_ok_weaker}
use Rattle.squall_picture.specs.Scale.{x_of}
use Rattle.squall_picture.specs.Bands.{group_text}
use Rattle.squall_picture.proofs.bands.add_band.Goals as goal

pub returns : goal.returns
returns c = on_ok_weaker c.add_group.result (λ e. e ∙ (λ i. string_bytes c.args.out.now ++ group_text ((c.x-x.ensures ∙ ap (x_of c.args.axis.now) c.lo-from.ensures.value) i) (c.width-width.ensures i) (c.is_opened-opened.ensures i) c.args.status.now)) c.add_group.ensures
