use Rattle.std.proofs.Common.{take}
use Rattle.squall_world.specs.Naming.{AreNoted}
use Rattle.squall_world.proofs.naming.note_places.Given as goal

-- those before the place are noted
abbrev pub invariant-loop-at : goal.invariant-loop-at
invariant-loop-at l = AreNoted (take l.at l.peers) l.places
