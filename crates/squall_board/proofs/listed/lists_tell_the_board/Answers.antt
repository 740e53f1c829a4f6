use Rattle.squall_board.specs.ToldListLaws.{lists_tell}
use Rattle.squall_board.proofs.listed.lists_tell_the_board.Goals as goal

pub returns : goal.returns
returns c = lists_tell c.args.board.now c.known.ensures.board
