use Rattle.squall_wire.specs.BoardOfLaws.{lists_back}
use Rattle.squall_wire.proofs.laws.lists_make_the_board.Goals as goal

pub returns : goal.returns
returns c = lists_back c.args.board.now c.known.ensures.board
