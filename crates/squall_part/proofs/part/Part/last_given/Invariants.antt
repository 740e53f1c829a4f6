use Rattle.std.proofs.Common.{◌≡◌, ◌≤◌, length, take}
use Rattle.squall_part.specs.Logs.{gave, last_of}
use Rattle.squall_part.proofs.part.Part.last_given.Given as goal

abbrev pub invariant-loop-at : goal.invariant-loop-at
invariant-loop-at l = (l.at ≤ length l.self.logs) × (last_of (gave l.self l.key) (take l.at l.self.logs) ≡ last_of (gave l.self l.key) l.self.logs)

abbrev pub decreases-loop-at : goal.decreases-loop-at
decreases-loop-at l = l.at
