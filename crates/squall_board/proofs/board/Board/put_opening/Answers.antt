use Rattle.squall_board.specs.Boards.{opening_board, told, told_by_count}
use Rattle.squall_board.specs.BoardLaws.{count_tells}
use Rattle.squall_board.specs.TakesLaws.{took_as}
use Rattle.squall_board.proofs.board.Board.put_opening.Goals as goal

pub returns-clause-takes : goal.returns-clause-takes
returns-clause-takes c = took_as c.update_opening.result c.args.self.now (opening_board c.args.opening.now.number c.args.opening.now.count) c.update_opening.new.self (told (opening_board c.args.opening.now.number c.args.opening.now.count)) (told_by_count c.args.opening.now.number c.args.opening.now.count) c.update_opening.ensures.takes (count_tells c.args.opening.now.number c.args.opening.now.count)
