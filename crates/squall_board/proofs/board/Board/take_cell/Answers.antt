use Rattle.std.proofs.Common.{OnOk, subst}
use Rattle.squall_board.specs.Boards.{told, cell_board, told_by_cell}
use Rattle.squall_board.specs.BoardLaws.{cell_tells}
use Rattle.squall_board.specs.Listed.{entry_value}
use Rattle.squall_board.specs.Takes.{TakesCell}
use Rattle.squall_board.specs.TakesLaws.{took_as}
use Rattle.squall_board.proofs.board.Board.take_cell.Goals as goal

pub returns-clause-takes : goal.returns-clause-takes
returns-clause-takes c = subst (λ p. OnOk c.update_cell.result (TakesCell c.args.self.now p (entry_value c.args.cell) c.update_cell.new.self)) c.place.ensures
    (took_as c.update_cell.result c.args.self.now (cell_board c.place.result (entry_value c.args.cell)) c.update_cell.new.self (told (cell_board c.place.result (entry_value c.args.cell))) (told_by_cell c.place.result (entry_value c.args.cell)) c.update_cell.ensures.takes (cell_tells c.place.result (entry_value c.args.cell)))
