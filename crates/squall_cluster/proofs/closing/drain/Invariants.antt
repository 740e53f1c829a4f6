use Rattle.std.proofs.Common.{◌≡◌, ◌-◌, ◌^◌, length}
use Rattle.squall_cluster.proofs.closing.drain.Given as goal

abbrev pub invariant-loop-turn : goal.invariant-loop-turn
invariant-loop-turn g l = (l.owner.inbox ≡ l.initial.owner.inbox) × (l.owner.made ≡ l.initial.owner.made) × (l.owner.vouched ≡ l.initial.owner.vouched)

-- a count of 64 bits holds the number of letters published
abbrev pub decreases-loop-turn : goal.decreases-loop-turn
decreases-loop-turn g l = 2 ^ 64 - length l.owner.published
