use Rattle.std.proofs.Common.{◌≡◌, ℕ, false, subst, sym, ap, ◌∙◌}
use Rattle.squall_report.specs.Cells.{place_at}
use Rattle.squall_report.specs.Facts.{DonePart, OpenedSub}
use Rattle.squall_board.specs.Boards.{says}
use Rattle.squall_status.proofs.AfterNews.{same_subplan}
use Rattle.squall_status.proofs.renewed.renewed_subplan.Goals as goal

pub returns : goal.returns
returns c =
    let news = says c.args.news.now in
    let told = says c.args.board.now in
    let s = c.args.status in
    let none : (part : ℕ) → news (DonePart (place_at c.args.course.now.number s.sub part)) ≡ false =
    λ part. subst (λ n. news (DonePart (place_at n s.sub part)) ≡ false) c.number-number.ensures.value (c.has_cells.ensures c.if-has_cells.false part) in
    same_subplan c.args.course.now news told s _ none (sym (c.opened.ensures.facts s.sub) ∙ ap (λ n. told (OpenedSub n s.sub)) c.number-number.ensures.value)
