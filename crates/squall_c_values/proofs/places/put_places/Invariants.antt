use Rattle.std.proofs.Common.{◌≡◌, take, map, length}
use Rattle.squall_plan.specs.Ranges.{owner_of}
use Rattle.squall_c_values.specs.Rooms.{over}
use Rattle.squall_c_values.specs.Values.{place_at}
use Rattle.squall_c_values.proofs.places.put_places.Given as goal

abbrev pub invariant-loop-at : goal.invariant-loop-at
invariant-loop-at l = (l.room ≡ over (take l.at (map (place_at l.course (owner_of l.table)) l.ranks)) l.fn.room) × (length l.room ≡ length l.fn.room)
