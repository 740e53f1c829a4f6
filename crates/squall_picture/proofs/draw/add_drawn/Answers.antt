use Rattle.std.proofs.Common.{◌++◌, ◌∙◌, ap}
use Rattle.std.specs.Prelude.{string_bytes}
use Rattle.std.proofs.lemmas.Result.{on_ok_weaker}
use Rattle.squall_picture.specs.Picture.{wide_text}
use Rattle.squall_picture.proofs.draw.add_drawn.Goals as goal

pub returns : goal.returns
returns c = on_ok_weaker c.add_all.result (λ e. e ∙ ap (λ n. string_bytes c.args.out.now ++ wide_text n c.args.axis.now c.args.old.now c.args.new.now c.args.status.now) c.total-width.ensures) c.add_all.ensures
