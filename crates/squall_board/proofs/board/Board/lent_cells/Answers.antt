use Rattle.squall_board.proofs.Lists.{numbers_of}
use Rattle.squall_board.proofs.board.Board.lent_cells.Goals as goal

pub push_numbers-requires : goal.push_numbers-requires
push_numbers-requires c = numbers_of c.self.inside.parts c.entries.result.now c.self.invariant c.entries.ensures.entries
