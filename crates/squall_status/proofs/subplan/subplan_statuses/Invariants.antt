use Rattle.std.proofs.Common.{◌≡◌, map}
use Rattle.std.specs.List.{range_with_len}
use Rattle.squall_board.specs.Boards.{says}
use Rattle.squall_status.specs.Summary.{subplan_status}
use Rattle.squall_status.proofs.subplan.subplan_statuses.Given as goal

abbrev pub invariant-loop-sub : goal.invariant-loop-sub
invariant-loop-sub l = l.statuses.items ≡ map (subplan_status l.course (says l.board)) (range_with_len 0 l.sub)
