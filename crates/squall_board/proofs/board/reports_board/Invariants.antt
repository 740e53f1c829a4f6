use Rattle.std.proofs.Common.{◌≡◌, take, drop}
use Rattle.squall_board.specs.Boards.{HasTaken}
use Rattle.squall_board.specs.Takes.{taking, board_by}
use Rattle.squall_board.proofs.board.reports_board.Given as goal

abbrev pub invariant-loop-report : goal.invariant-loop-report
invariant-loop-report l = HasTaken l.board (take l.report-index l.reports) × (taking l.board (drop l.report-index l.reports) ≡ board_by l.reports)
