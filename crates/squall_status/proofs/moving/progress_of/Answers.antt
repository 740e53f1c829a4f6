use Rattle.std.proofs.Common.{◌≡◌, sym, ap, ◌∙◌}
use Rattle.std.specs.Option.{option_copied}
use Rattle.squall_report.specs.Cells.{place_at}
use Rattle.squall_board.specs.Boards.{says, cell_of}
use Rattle.squall_board.specs.MovesRoute.{cell_to, has_come_to, cell_has_come}
use Rattle.squall_board.specs.MovesRouteLaws.{cell_says_what_came}
use Rattle.squall_status.proofs.Progressed.{same_progress}
use Rattle.squall_status.proofs.moving.progress_of.Goals as goal

pub returns : goal.returns
returns c =
    let b = c.args.board.now in
    let m = c.args.moving.now in
    let cell = cell_to c.args.number m in
    let place : c.of-cell.result ≡ cell = c.of-cell.ensures ∙ ap (place_at c.args.number m.sub) c.get.ensures.value in
    let found : option_copied c.cell_at.result ≡ cell_of b cell = c.cell_at.ensures ∙ ap (cell_of b) place in
    same_progress m.span (cell_has_come (option_copied c.cell_at.result)) (has_come_to (says b) cell) c.progress_in.result
    (λ k is. ap (λ o. cell_has_come o k) found ∙ sym (cell_says_what_came b cell k)) c.progress_in.ensures
