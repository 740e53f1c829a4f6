use Rattle.std.proofs.Common.{◌≡◌, map, take}
use Rattle.std.specs.List.{AllByRecursion}
use Rattle.squall_board.specs.Boards.{says}
use Rattle.squall_status.specs.Summary.{IsMoveStatus}
use Rattle.squall_status.proofs.moving.move_statuses.Given as goal

abbrev pub invariant-loop-moving : goal.invariant-loop-moving
invariant-loop-moving l = record {
  moves : map (λ s. s.moving) l.statuses.items ≡ take l.moving-index l.moving-items;
  each : AllByRecursion (IsMoveStatus l.course (says l.board)) l.statuses.items;
}
