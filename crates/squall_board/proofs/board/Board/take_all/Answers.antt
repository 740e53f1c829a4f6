use Rattle.squall_board.proofs.Merged.{took_all}
use Rattle.squall_board.proofs.board.Board.take_all.Goals as goal

pub returns-clause-takes : goal.returns-clause-takes
returns-clause-takes c = took_all c.merge.result c.args.self.now c.in_ok-delta.delta c.merge.new.self c.args.reports.now c.in_ok-delta.ensures.board c.in_ok-delta.ensures.taken c.merge.ensures.takes
