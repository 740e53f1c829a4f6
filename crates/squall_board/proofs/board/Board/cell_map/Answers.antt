use Rattle.squall_board.specs.ListedLaws.{board_cells}
use Rattle.squall_board.specs.RowLaws.{some_rows}
use Rattle.squall_board.proofs.board.Board.cell_map.Goals as goal

pub returns-clause-within : goal.returns-clause-within
returns-clause-within c = board_cells c.self.inside.parts c.self.invariant

pub returns-clause-rows : goal.returns-clause-rows
returns-clause-rows c = some_rows c.self.inside.parts c.self.invariant
