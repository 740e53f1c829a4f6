use Rattle.std.specs.Prelude.{IfOk, string_bytes}
use Rattle.std.proofs.Common.{subst, ◌∙◌}
use Rattle.squall_course.specs.Change.{Change}
use Rattle.squall_board.specs.Boards.{BoardValue, says}
use Rattle.squall_picture.specs.Picture.{IsPictureOf}
use Rattle.squall_c.proofs.texts.picture_of.Goals as goal

pub returns : goal.returns
returns c =
    subst (λ (d : Change). IfOk c.picture.result (λ text. IsPictureOf d (says c.args.station.now.router.board) (string_bytes text))) (c.deref.ensures ∙ c.course.ensures)
    (subst (λ (b : BoardValue). IfOk c.picture.result (λ text. IsPictureOf c.deref.result.now (says b) (string_bytes text))) c.board.ensures c.picture.ensures)
