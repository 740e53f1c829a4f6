use Rattle.std.proofs.Common.{◌≡◌, ◌++◌, ap, ◌∙◌}
use Rattle.std.specs.Prelude.{string_bytes}
use Rattle.std.proofs.lemmas.Result.{on_ok_weaker}
use Rattle.squall_status.specs.Shares.{course_share}
use Rattle.squall_picture.specs.Frame.{share_text}
use Rattle.squall_picture.proofs.frame.add_share.Goals as goal

pub returns : goal.returns
returns c =
    let share = c.course_share-share.ensures.value ∙ ap course_share c.moves.ensures in
    on_ok_weaker c.write.result (λ (e : string_bytes c.write.new.self ≡ string_bytes c.args.out.now ++ share_text c.loaded-loaded.result c.keys-keys.result c.course_share-share.result).
    e ∙ (λ i. string_bytes c.args.out.now ++ share_text (c.loaded-loaded.ensures.value i) (c.keys-keys.ensures.value i) (share i))) c.write.ensures.bytes
