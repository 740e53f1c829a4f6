use Rattle.std.proofs.Common.{◌≡◌, ◌≤◌, ◌*◌, take}
use Rattle.std.specs.List.{sum_by}
use Rattle.squall_status.specs.Shares.{move_share}
use Rattle.squall_status.proofs.share.sum_shares.Given as goal

abbrev pub invariant-loop-status : goal.invariant-loop-status
invariant-loop-status l = record {
  so_far : l.sum ≡ sum_by move_share (take l.status-index l.moves);
  few : l.sum ≤ 1000 * l.status-index;
}
