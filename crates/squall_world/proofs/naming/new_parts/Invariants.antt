use Rattle.std.proofs.Common.{◌≡◌}
use Rattle.std.specs.Arc.{arc_value}
use Rattle.squall_world.specs.Events.{part_peers}
use Rattle.squall_world.specs.Naming.{AreRoles, missing_below}
use Rattle.squall_world.proofs.naming.new_parts.Given as goal

-- the nodes of those below the number
abbrev pub invariant-loop-part : goal.invariant-loop-part
invariant-loop-part l = (l.peers.items ≡ part_peers (arc_value l.first) (missing_below l.part l.named l.places)) × AreRoles l.peers.items
