use Rattle.squall_delta.specs.RepairLaws.{issue_shown, row_shown}
use Rattle.squall_delta.proofs.repair_laws.digests_list_the_board.Goals as goal

pub returns-clause-issues : goal.returns-clause-issues
returns-clause-issues c = issue_shown c.args.board.now c.known.ensures.board

pub returns-clause-rows : goal.returns-clause-rows
returns-clause-rows c = row_shown c.args.board.now c.known.ensures.board
