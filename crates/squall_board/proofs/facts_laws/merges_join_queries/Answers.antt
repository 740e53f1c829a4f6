use Rattle.squall_board.specs.BoardQueriesLaws.{merged_queries}
use Rattle.squall_board.proofs.facts_laws.merges_join_queries.Goals as goal

pub returns : goal.returns
returns c = merged_queries
