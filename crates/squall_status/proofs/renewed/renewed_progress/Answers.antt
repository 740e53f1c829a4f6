use Rattle.std.specs.Prelude.{None}
use Rattle.std.proofs.Common.{◌≡◌, sym, ap, ◌∙◌}
use Rattle.std.specs.Option.{option_copied}
use Rattle.squall_report.specs.Cells.{place_at}
use Rattle.squall_board.specs.Boards.{says, cell_of}
use Rattle.squall_board.specs.MovesRoute.{cell_to, cell_has_come}
use Rattle.squall_board.specs.MovesRouteLaws.{cell_says_what_came}
use Rattle.squall_status.proofs.AfterNews.{untouched}
use Rattle.squall_status.proofs.renewed.renewed_progress.Goals as goal

pub returns-in-Some : goal.returns-in-Some
returns-in-Some c = λ before said was. c.progress_of.ensures

pub returns-in-None : goal.returns-in-None
returns-in-None c =
    let news = c.args.news.now in
    let m = c.args.status.now.moving in
    let cell = cell_to c.args.number m in
    let place : c.of-cell.result ≡ cell = c.of-cell.ensures ∙ ap (place_at c.args.number m.sub) c.get.ensures.value in
    let none : cell_of news cell ≡ None = sym (c.cell_at.ensures ∙ ap (cell_of news) place) ∙ ap option_copied c.in-None.is in
    untouched (says news) (says c.args.board.now) cell m.span c.args.status.now.progress (λ k. cell_says_what_came news cell k ∙ ap (λ o. cell_has_come o k) none)
