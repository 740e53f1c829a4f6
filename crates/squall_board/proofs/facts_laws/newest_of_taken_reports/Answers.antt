use Rattle.squall_board.specs.BoardQueriesLaws.{taken_newest}
use Rattle.squall_board.proofs.facts_laws.newest_of_taken_reports.Goals as goal

pub returns : goal.returns
returns c = λ rs low taken. taken_newest c.args.board.now rs low c.known.ensures.board taken
