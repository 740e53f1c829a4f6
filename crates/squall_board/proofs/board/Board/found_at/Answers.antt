use Rattle.std.proofs.Common.{ap, ◌∙◌}
use Rattle.std.specs.Ordering.{nat_cmp}
use Rattle.std.specs.FinMap.Entries.{find}
use Rattle.squall_board.specs.Boards.{cells_in, CellValue, Parts, found_in}
use Rattle.squall_board.proofs.board.Board.found_at.Goals as goal

pub returns : goal.returns
returns c =
    c.found_in.ensures
    ∙ ap (found_in {V = CellValue} c.args.part) (c.found_in-parts.ensures ∙ ap (found_in {V = Parts} c.args.sub) (c.get-subs.ensures ∙ ap (λ b. find nat_cmp c.args.number (cells_in b)) c.self.view_is))
