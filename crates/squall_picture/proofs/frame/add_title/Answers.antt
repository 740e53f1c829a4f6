use Rattle.std.proofs.Common.{◌≡◌, ◌++◌, ap, ◌∙◌}
use Rattle.std.specs.Prelude.{string_bytes}
use Rattle.std.proofs.lemmas.Result.{on_ok_weaker}
use Rattle.squall_picture.specs.Frame.{title_text}
use Rattle.squall_picture.proofs.frame.add_title.Goals as goal

pub returns : goal.returns
returns c = on_ok_weaker c.write.result (λ (e : string_bytes c.write.new.self ≡ string_bytes c.args.out.now ++ title_text c.number-number.result). e ∙ ap (λ n. string_bytes c.args.out.now ++ title_text n) c.number-number.ensures) c.write.ensures.bytes
