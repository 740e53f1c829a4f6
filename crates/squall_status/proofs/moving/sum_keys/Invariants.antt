use Rattle.std.proofs.Common.{◌≡◌, take}
use Rattle.std.specs.List.{sum_by}
use Rattle.squall_status.specs.Summary.{move_keys}
use Rattle.squall_status.proofs.moving.sum_keys.Given as goal

abbrev pub invariant-loop-status : goal.invariant-loop-status
invariant-loop-status l = l.keys ≡ sum_by move_keys (take l.status-index l.moves)
