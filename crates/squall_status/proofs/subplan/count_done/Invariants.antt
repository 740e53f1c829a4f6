use Rattle.std.proofs.Common.{◌≡◌, ◌≤◌, take}
use Rattle.std.specs.List.{count_by}
use Rattle.squall_board.specs.Boards.{says}
use Rattle.squall_status.specs.Summary.{is_done}
use Rattle.squall_status.proofs.subplan.count_done.Given as goal

abbrev pub invariant-loop-part : goal.invariant-loop-part
invariant-loop-part l = record {
  so_far : l.done ≡ count_by (is_done (says l.board) l.number l.sub) (take l.part-index l.parts);
  few : l.done ≤ l.part-index;
}
