use Rattle.squall_board.specs.Boards.{told, board_of, openings_in, cells_in, issue_board}
use Rattle.squall_board.specs.Updates.{issuing_value}
use Rattle.squall_board.specs.BoardLaws.{issue_board_is}
use Rattle.squall_board.specs.TakesLaws.{took, same_told}
use Rattle.squall_board.proofs.Merged.{merged_is, issue_put, issue_not_put}
use Rattle.squall_board.proofs.board.Board.update_issue.Goals as goal

pub invariant_of-self : goal.invariant_of-self
invariant_of-self c = merged_is c.update_at.result (board_of (openings_in c.self.inside.parts) c.update_at.new.self (cells_in c.self.inside.parts)) c.self.inside.parts (issue_board c.args.number (issuing_value c.args.issuing))
    (issue_put c.update_at.result c.update_at.new.self c.self.inside.parts c.args.number c.args.issuing c.update_at.ensures.ok)
    (issue_not_put c.update_at.result c.update_at.new.self c.self.inside.parts c.update_at.ensures.err)
    c.self.invariant (issue_board_is c.args.number (issuing_value c.args.issuing) c.requires)

pub returns-clause-takes : goal.returns-clause-takes
returns-clause-takes c = took c.update_at.result (board_of (openings_in c.self.inside.parts) c.update_at.new.self (cells_in c.self.inside.parts)) c.self.inside.parts (issue_board c.args.number (issuing_value c.args.issuing)) c.args.self.now (told (issue_board c.args.number (issuing_value c.args.issuing))) c.self.view_is
    (issue_put c.update_at.result c.update_at.new.self c.self.inside.parts c.args.number c.args.issuing c.update_at.ensures.ok)
    c.self.invariant (issue_board_is c.args.number (issuing_value c.args.issuing) c.requires) (same_told _)
