use Rattle.std.proofs.Common.{◌≡◌, drop}
use Rattle.squall_world.specs.Nets.{is_behind}
use Rattle.squall_world.proofs.counts.is_behind.Given as goal

-- the first counts are not greater
abbrev pub invariant-loop-at : goal.invariant-loop-at
invariant-loop-at l = is_behind (drop l.at l.known) (drop l.at l.counts) ≡ is_behind l.known l.counts
