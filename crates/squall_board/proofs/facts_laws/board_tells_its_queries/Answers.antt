use Rattle.squall_board.specs.BoardQueriesLaws.{board_told_by_queries}
use Rattle.squall_board.proofs.facts_laws.board_tells_its_queries.Goals as goal

pub returns : goal.returns
returns c = board_told_by_queries c.args.board.now
