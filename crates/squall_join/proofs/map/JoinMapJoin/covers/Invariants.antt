use Rattle.std.proofs.Common.{ℕ, ◌<◌, get_or}
use Rattle.squall_join.specs.Entries.{CoversEntry}
use Rattle.squall_join.proofs.map.JoinMapJoin.covers.Given as goal

abbrev pub invariant-loop-entry : goal.invariant-loop-entry
invariant-loop-entry g l = (k : ℕ) (d : _) → k < l.entry-index → CoversEntry g.K.Ord.cmp g.V.Join.join l.self (get_or l.entry-items k d)
