use Rattle.squall_board.specs.OneListLaws.{one_openings}
use Rattle.squall_board.proofs.listed.one_list_of_openings.Goals as goal

pub returns : goal.returns
returns c xs are = one_openings c.args.board.now xs c.known.ensures.board are
