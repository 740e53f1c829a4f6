use Rattle.squall_board.specs.EqualLaws.{same_answer}
use Rattle.squall_board.proofs.board.BoardPartialEq.eq.Goals as goal

pub returns : goal.returns
returns c = same_answer c.same.result c.self.inside.parts c.other.inside.parts c.args.self.now c.args.other.now c.self.view_is c.other.view_is c.same.ensures
