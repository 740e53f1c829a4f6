use Rattle.std.proofs.Common.{◌-◌}
use Rattle.squall_judge.specs.Merges.{IsReady, GoesOn, world_of}
use Rattle.squall_judge.proofs.Counts.{total}
use Rattle.squall_judge.proofs.merge.Merge.run.Given as goal

abbrev pub invariant-loop-at : goal.invariant-loop-at
invariant-loop-at l = record {
  ready : IsReady l.fn.logs l.fn.limits l.self;
  goes : GoesOn l.fn.logs (world_of l.fn.self) l.fn.self.taken.items (world_of l.self) l.self.taken.items;
}

abbrev pub decreases-loop-at : goal.decreases-loop-at
decreases-loop-at l = total l.fn.limits - total l.self.taken.items
