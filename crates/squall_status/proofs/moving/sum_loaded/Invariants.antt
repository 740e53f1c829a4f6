use Rattle.std.proofs.Common.{◌≡◌, take}
use Rattle.std.specs.List.{sum_by}
use Rattle.squall_status.specs.Summary.{move_loaded}
use Rattle.squall_status.proofs.moving.sum_loaded.Given as goal

abbrev pub invariant-loop-status : goal.invariant-loop-status
invariant-loop-status l = l.loaded ≡ sum_by move_loaded (take l.status-index l.moves)
