use Rattle.squall_board.specs.ToldListLaws.{lists_equal}
use Rattle.squall_board.proofs.listed.lists_determine_the_board.Goals as goal

pub returns : goal.returns
returns c = lists_equal c.args.board.now c.args.other.now c.known.ensures.board c.known-2.ensures.board
