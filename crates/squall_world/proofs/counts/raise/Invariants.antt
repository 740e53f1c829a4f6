use Rattle.std.proofs.Common.{◌≡◌, ◌≤◌, length, take, vec_capacity}
use Rattle.squall_world.specs.Nets.{raised}
use Rattle.squall_world.proofs.counts.raise.Given as goal

-- the first counts are raised
abbrev pub invariant-loop-at : goal.invariant-loop-at
invariant-loop-at l = (length l.counts ≤ vec_capacity l.known) × (l.known.items ≡ raised l.initial.known.items (take l.at l.counts))
