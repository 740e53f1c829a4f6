use Rattle.std.proofs.Common.{ℕ, ◌<◌}
use Rattle.squall_judge.specs.Merges.{IsSameMerge, IsBlocked, world_of}
use Rattle.squall_judge.proofs.merge.Merge.round.Given as goal

abbrev pub invariant-loop-at : goal.invariant-loop-at
invariant-loop-at l = record {
  same : IsSameMerge l.fn.self l.self;
  blocked : (i : ℕ) → i < l.at → IsBlocked l.fn.logs l.fn.limits l.fn.self.taken.items (world_of l.fn.self) i;
}
