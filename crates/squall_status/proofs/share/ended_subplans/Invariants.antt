use Rattle.std.proofs.Common.{◌≡◌, ◌≤◌, take}
use Rattle.std.specs.List.{count_by}
use Rattle.squall_status.specs.Shares.{is_ended}
use Rattle.squall_status.proofs.share.ended_subplans.Given as goal

abbrev pub invariant-loop-status : goal.invariant-loop-status
invariant-loop-status l = record {
  so_far : l.ended ≡ count_by is_ended (take l.status-index l.subplans);
  few : l.ended ≤ l.status-index;
}
