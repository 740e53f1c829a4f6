use Rattle.squall_board.proofs.Merged.{covers_tells}
use Rattle.squall_board.proofs.board.Board.covers.Goals as goal

pub returns : goal.returns
returns c = covers_tells c.covers.result c.self.inside.parts c.other.inside.parts c.args.self.now c.args.other.now c.self.view_is c.other.view_is c.self.invariant c.other.invariant c.covers.ensures
