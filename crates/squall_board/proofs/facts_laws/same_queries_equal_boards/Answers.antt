use Rattle.squall_board.specs.BoardQueriesLaws.{one_board_of_queries}
use Rattle.squall_board.proofs.facts_laws.same_queries_equal_boards.Goals as goal

pub returns : goal.returns
returns c = λ same. one_board_of_queries c.args.first.now c.args.second.now c.known.ensures.board c.known-2.ensures.board same
