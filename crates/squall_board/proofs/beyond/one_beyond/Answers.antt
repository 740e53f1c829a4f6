use Rattle.squall_board.specs.BoardBeyondLaws.{one_rest}
use Rattle.squall_board.proofs.beyond.one_beyond.Goals as goal

pub returns : goal.returns
returns c = one_rest c.args.a.now c.args.b.now c.args.c.now c.args.d.now c.known-3.ensures.board c.known-4.ensures.board
