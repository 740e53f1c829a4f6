use Rattle.std.proofs.Common.{◌≡◌, ◌≤◌, take}
use Rattle.std.specs.List.{count_by}
use Rattle.squall_status.specs.Shares.{is_over}
use Rattle.squall_status.proofs.share.complete_moves.Given as goal

abbrev pub invariant-loop-status : goal.invariant-loop-status
invariant-loop-status l = record {
  so_far : l.over ≡ count_by is_over (take l.status-index l.moves);
  few : l.over ≤ l.status-index;
}
