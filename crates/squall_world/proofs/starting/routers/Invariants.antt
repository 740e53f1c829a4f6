use Rattle.std.proofs.Common.{◌≡◌}
use Rattle.std.specs.Arc.{arc_value}
use Rattle.squall_world.specs.Events.{router_peers}
use Rattle.squall_world.specs.Naming.{AreRoles}
use Rattle.squall_world.proofs.starting.routers.Given as goal

-- the nodes of the first so many
abbrev pub invariant-loop-number : goal.invariant-loop-number
invariant-loop-number l = (l.peers.items ≡ router_peers (arc_value l.first) l._number) × AreRoles l.peers.items
