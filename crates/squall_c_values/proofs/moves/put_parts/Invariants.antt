use Rattle.std.proofs.Common.{◌≡◌, take, map, length}
use Rattle.squall_c_values.specs.Rooms.{over}
use Rattle.squall_c_values.proofs.moves.put_parts.Given as goal

abbrev pub invariant-loop-at : goal.invariant-loop-at
invariant-loop-at l = (l.room ≡ over (take l.at (map (λ p. p) l.parts)) l.fn.room) × (length l.room ≡ length l.fn.room)
