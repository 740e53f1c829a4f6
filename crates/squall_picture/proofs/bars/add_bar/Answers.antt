use Rattle.std.proofs.Common.{◌++◌, ◌∙◌, ap}
use Rattle.std.specs.Prelude.{string_bytes}
use Rattle.std.proofs.lemmas.Result.{on_ok_weaker}
use Rattle.squall_picture.specs.Scale.{x_of}
use Rattle.squall_picture.specs.Bars.{bar_group}
use Rattle.squall_picture.proofs.bars.add_bar.Goals as goal

pub returns : goal.returns
returns c = on_ok_weaker c.add_group.result (λ e. e ∙ (λ i. string_bytes c.args.out.now ++ bar_group (c.colour_of-colour.ensures.value i) ((c.x-x.ensures ∙ ap (x_of c.args.axis.now) c.lo-from.ensures.value) i) c.args.y (c.width-width.ensures i) (c.get-part.ensures.value i) c.args.range.now)) c.add_group.ensures
