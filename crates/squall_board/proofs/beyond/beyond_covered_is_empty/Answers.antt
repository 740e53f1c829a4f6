use Rattle.squall_board.proofs.Remains.{covered_rest}
use Rattle.squall_board.proofs.beyond.beyond_covered_is_empty.Goals as goal

pub returns : goal.returns
returns c = covered_rest c.args.a.now c.args.b.now c.args.c.now c.known.ensures.board c.known-2.ensures.board c.known-3.ensures.board
