use Rattle.squall_board.specs.BoardQueriesLaws.{taken_openings}
use Rattle.squall_board.proofs.facts_laws.taken_openings_count.Goals as goal

pub returns : goal.returns
returns c = λ rs n taken. taken_openings c.args.board.now rs n taken
