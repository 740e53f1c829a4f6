use Rattle.std.proofs.Common.{◌≡◌, ◌<◌, ◌+◌, ◌-◌, vec_len, vec_capacity}
use Rattle.squall_world.specs.Nets.{noted}
use Rattle.squall_world.proofs.counts.note.Given as goal

-- the zeros that are added change nothing
abbrev pub invariant-loop-known : goal.invariant-loop-known
invariant-loop-known l = (l.at < vec_capacity l.known) × (noted l.at l.count l.known.items ≡ noted l.at l.count l.initial.known.items)

abbrev pub decreases-loop-known : goal.decreases-loop-known
decreases-loop-known l = (l.at + 1) - vec_len l.known
