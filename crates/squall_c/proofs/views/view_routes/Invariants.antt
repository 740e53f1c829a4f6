use Rattle.std.proofs.Common.{◌≡◌, take, map, length}
use Rattle.squall_c_values.specs.Rooms.{over}
use Rattle.squall_c.specs.Views.{seen}
use Rattle.squall_c.proofs.views.view_routes.Given as goal

abbrev pub invariant-loop-at : goal.invariant-loop-at
invariant-loop-at l = (l.room ≡ over (take l.at (map (seen l.slot.view) l.ranks)) l.fn.room) × (length l.room ≡ length l.fn.room)
