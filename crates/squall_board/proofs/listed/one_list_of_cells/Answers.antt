use Rattle.squall_board.specs.OneListLaws.{one_cells}
use Rattle.squall_board.proofs.listed.one_list_of_cells.Goals as goal

pub returns : goal.returns
returns c xs are = one_cells c.args.board.now xs c.known.ensures.board are
