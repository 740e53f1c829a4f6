use Rattle.std.proofs.Common.{◌≡◌, map, take}
use Rattle.std.specs.List.{AllByRecursion}
use Rattle.squall_board.specs.Boards.{says}
use Rattle.squall_status.specs.Summary.{IsMoveStatus}
use Rattle.squall_status.proofs.renewed.renewed_moves.Given as goal

abbrev pub invariant-loop-status : goal.invariant-loop-status
invariant-loop-status l = record {
  moves : map (λ s. s.moving) l.renewed.items ≡ map (λ s. s.moving) (take l.status-index l.statuses);
  each : AllByRecursion (IsMoveStatus l.course (says l.board)) l.renewed.items;
}
