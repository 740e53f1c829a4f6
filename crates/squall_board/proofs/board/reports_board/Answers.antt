use Rattle.squall_board.proofs.Merged.{next_taken, next_taking}
use Rattle.squall_board.proofs.board.reports_board.Goals as goal

pub loop-report-preserved : goal.loop-report-preserved
loop-report-preserved c = (
  next_taken c.take.new.self c.loop-report.board c.args.reports.now c.loop-report.report-index c.report-item.result c.loop-report-test.true c.report-item.is c.loop-report.invariant.0 c.in_ok-take.ensures.takes,
  next_taking c.take.new.self c.loop-report.board c.args.reports.now c.loop-report.report-index c.report-item.result c.loop-report-test.true c.report-item.is c.loop-report.invariant.1 c.in_ok-take.ensures.takes,
)
