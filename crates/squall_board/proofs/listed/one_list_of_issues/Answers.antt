use Rattle.squall_board.specs.OneListLaws.{one_issues}
use Rattle.squall_board.proofs.listed.one_list_of_issues.Goals as goal

pub returns : goal.returns
returns c xs are = one_issues c.args.board.now xs c.known.ensures.board are
