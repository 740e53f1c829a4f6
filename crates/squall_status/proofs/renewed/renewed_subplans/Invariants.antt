use Rattle.std.proofs.Common.{◌≡◌, take}
use Rattle.squall_board.specs.Boards.{says}
use Rattle.squall_status.proofs.AfterNews.{after_news}
use Rattle.squall_status.proofs.renewed.renewed_subplans.Given as goal

abbrev pub invariant-loop-status : goal.invariant-loop-status
invariant-loop-status l = l.renewed.items ≡ after_news l.course (says l.board) (take l.status-index l.statuses)
