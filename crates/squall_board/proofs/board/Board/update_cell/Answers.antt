use Rattle.squall_board.specs.Boards.{told, board_of, openings_in, issues_in, cell_board}
use Rattle.squall_board.specs.BoardLaws.{cell_board_is}
use Rattle.squall_board.specs.TakesLaws.{took, same_told}
use Rattle.squall_board.proofs.Merged.{merged_is, cell_put, cell_not_put}
use Rattle.squall_board.proofs.board.Board.update_cell.Goals as goal

pub invariant_of-self : goal.invariant_of-self
invariant_of-self g c = merged_is c.update_at.result (board_of (openings_in c.self.inside.parts) (issues_in c.self.inside.parts) c.update_at.new.self) c.self.inside.parts (cell_board c.args.cell (g.U.Update.value c.args.update))
    (cell_put c.update_at.result c.update_at.new.self c.self.inside.parts c.args.cell (g.U.Update.value c.args.update) _ (cc) c.update_at.ensures.ok)
    (cell_not_put c.update_at.result c.update_at.new.self c.self.inside.parts c.update_at.ensures.err)
    c.self.invariant (cell_board_is c.args.cell (g.U.Update.value c.args.update) c.known-2.ensures c.known.ensures.value c.known.ensures.kept)

pub returns-clause-takes : goal.returns-clause-takes
returns-clause-takes g c = took c.update_at.result (board_of (openings_in c.self.inside.parts) (issues_in c.self.inside.parts) c.update_at.new.self) c.self.inside.parts (cell_board c.args.cell (g.U.Update.value c.args.update)) c.args.self.now (told (cell_board c.args.cell (g.U.Update.value c.args.update))) c.self.view_is
    (cell_put c.update_at.result c.update_at.new.self c.self.inside.parts c.args.cell (g.U.Update.value c.args.update) _ (cc) c.update_at.ensures.ok)
    c.self.invariant (cell_board_is c.args.cell (g.U.Update.value c.args.update) c.known-2.ensures c.known.ensures.value c.known.ensures.kept) (same_told _)
