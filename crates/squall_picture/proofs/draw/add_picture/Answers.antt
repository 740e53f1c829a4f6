use Rattle.std.proofs.Common.{ℕ, List, ◌++◌, ◌∙◌, ap}
use Rattle.std.specs.Prelude.{string_bytes}
use Rattle.std.proofs.lemmas.Result.{on_ok_weaker}
use Rattle.squall_picture.specs.Picture.{drawn_text}
use Rattle.squall_picture.proofs.draw.add_picture.Goals as goal

pub returns : goal.returns
returns c = on_ok_weaker c.add_drawn.result (λ e. e ∙ ap (λ (ts : List ℕ). string_bytes c.args.out.now ++ drawn_text ts c.args.old.now c.args.new.now c.args.status.now) c.in_ok-axis.ensures) c.add_drawn.ensures
