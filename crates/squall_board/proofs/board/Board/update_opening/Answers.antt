use Rattle.squall_board.specs.Boards.{told, board_of, issues_in, cells_in, opening_board}
use Rattle.squall_board.specs.BoardLaws.{opening_board_is}
use Rattle.squall_board.specs.TakesLaws.{took, same_told}
use Rattle.squall_board.proofs.Merged.{merged_is, opening_put, opening_not_put}
use Rattle.squall_board.proofs.board.Board.update_opening.Goals as goal

pub invariant_of-self : goal.invariant_of-self
invariant_of-self c = merged_is c.update_at.result (board_of c.update_at.new.self (issues_in c.self.inside.parts) (cells_in c.self.inside.parts)) c.self.inside.parts (opening_board c.args.number c.args.count)
    (opening_put c.update_at.result c.update_at.new.self c.self.inside.parts c.args.number c.args.count c.update_at.ensures.ok)
    (opening_not_put c.update_at.result c.update_at.new.self c.self.inside.parts c.update_at.ensures.err)
    c.self.invariant (opening_board_is c.args.number c.args.count c.requires.number c.requires.count.0 c.requires.count.1)

pub returns-clause-takes : goal.returns-clause-takes
returns-clause-takes c = took c.update_at.result (board_of c.update_at.new.self (issues_in c.self.inside.parts) (cells_in c.self.inside.parts)) c.self.inside.parts (opening_board c.args.number c.args.count) c.args.self.now (told (opening_board c.args.number c.args.count)) c.self.view_is
    (opening_put c.update_at.result c.update_at.new.self c.self.inside.parts c.args.number c.args.count c.update_at.ensures.ok)
    c.self.invariant (opening_board_is c.args.number c.args.count c.requires.number c.requires.count.0 c.requires.count.1) (same_told _)
