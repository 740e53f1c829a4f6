use Rattle.squall_report.specs.ToldLaws.{told_same}
use Rattle.squall_board.specs.BoardLaws.{same_taken}
use Rattle.squall_board.proofs.laws.same_reports_equal_boards.Goals as goal

pub returns-clause-told : goal.returns-clause-told
returns-clause-told c rs qs h g same = same_taken c.args.first.now c.args.second.now rs qs c.known.ensures.board c.known-2.ensures.board h g same

pub returns-clause-reports : goal.returns-clause-reports
returns-clause-reports c rs qs h g are = same_taken c.args.first.now c.args.second.now rs qs c.known.ensures.board c.known-2.ensures.board h g (told_same rs qs are)
