use Rattle.squall_board.specs.BoardLaws.{same_board}
use Rattle.squall_board.proofs.laws.equal_facts_equal_boards.Goals as goal

pub returns : goal.returns
returns c = same_board c.args.first.now c.args.second.now c.known.ensures.nested c.known-2.ensures.nested
