use Rattle.std.proofs.Common.{◌≡◌, take}
use Rattle.squall_blocks.specs.Entries.{RiseFrom, last_from}
use Rattle.squall_blocks.proofs.entries.Entries.is_between.Given as goal

abbrev pub invariant-loop-at : goal.invariant-loop-at
invariant-loop-at g l = RiseFrom l.fn.from (take l.at l.self) × (l.last ≡ last_from l.fn.from (take l.at l.self))
