use Rattle.std.proofs.Common.{◌≡◌, drop}
use Rattle.squall_c.proofs.CutLegs.{Written}
use Rattle.squall_c.proofs.legs.cut_into.Given as goal

-- so many legs stand at the front of the room, behind them what stood there, and the others are left
abbrev pub invariant-loop-count : goal.invariant-loop-count
invariant-loop-count l = Written l.lo l.hi l.fn.legs l.fn.room l.count l.room × (l.rest ≡ drop l.count l.fn.legs)
