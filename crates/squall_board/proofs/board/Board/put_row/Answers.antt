use Rattle.std.proofs.Common.{ap}
use Rattle.squall_board.specs.Boards.{told, board_of, openings_in, issues_in, row_board}
use Rattle.squall_board.specs.RowLaws.{row_board_is}
use Rattle.squall_board.specs.TakesLaws.{took, same_told}
use Rattle.squall_board.proofs.Merged.{merged_is, row_put, cell_not_put}
use Rattle.squall_board.proofs.board.Board.put_row.Goals as goal

pub invariant_of-self : goal.invariant_of-self
invariant_of-self c = merged_is c.update_at.result (board_of (openings_in c.self.inside.parts) (issues_in c.self.inside.parts) c.update_at.new.self) c.self.inside.parts (row_board c.args.number c.args.sub c.args.row.now)
    (row_put c.update_at.result c.update_at.new.self c.self.inside.parts c.args.number c.args.sub _ c.args.row.now _ c.new-at_sub.ensures.key (ap (λ u. u.cells.now) c.new-at_sub.ensures.update) c.update_at.ensures.ok)
    (cell_not_put c.update_at.result c.update_at.new.self c.self.inside.parts c.update_at.ensures.err)
    c.self.invariant (row_board_is c.args.number c.args.sub c.args.row.now c.known.ensures c.requires.cells c.requires.some)

pub returns-clause-takes : goal.returns-clause-takes
returns-clause-takes c = took c.update_at.result (board_of (openings_in c.self.inside.parts) (issues_in c.self.inside.parts) c.update_at.new.self) c.self.inside.parts (row_board c.args.number c.args.sub c.args.row.now) c.args.self.now (told (row_board c.args.number c.args.sub c.args.row.now)) c.self.view_is
    (row_put c.update_at.result c.update_at.new.self c.self.inside.parts c.args.number c.args.sub _ c.args.row.now _ c.new-at_sub.ensures.key (ap (λ u. u.cells.now) c.new-at_sub.ensures.update) c.update_at.ensures.ok)
    c.self.invariant (row_board_is c.args.number c.args.sub c.args.row.now c.known.ensures c.requires.cells c.requires.some) (same_told _)
