use Rattle.std.specs.Prelude.{take}
use Rattle.squall_store.specs.Stores.{HoldsAll}
use Rattle.squall_store.proofs.store.Store.first_not_held.Given as goal

-- the partition holds each key so far
abbrev pub invariant-loop-at : goal.invariant-loop-at
invariant-loop-at g l = HoldsAll l.self.part (take l.at l.keys)
