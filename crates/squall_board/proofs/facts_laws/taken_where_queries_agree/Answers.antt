use Rattle.squall_board.specs.BoardQueriesLaws.{taken_queries}
use Rattle.squall_board.proofs.facts_laws.taken_where_queries_agree.Goals as goal

pub returns : goal.returns
returns c = λ rs. taken_queries c.args.board.now rs
