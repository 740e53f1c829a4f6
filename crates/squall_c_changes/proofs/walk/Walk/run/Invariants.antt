use Rattle.std.proofs.Common.{◌≡◌, ◌<◌, ◌≤◌, ℕ, ◌-◌}
use Rattle.squall_c_changes.specs.Walks.{walk_at, differs_on}
use Rattle.squall_c_changes.proofs.walk.Walk.run.Given as goal

-- all keys that were passed differ, or none does
abbrev pub invariant-loop-self : goal.invariant-loop-self
invariant-loop-self l = record {
  rest : l.self ≡ walk_at l.fn.self l.self.at;
  ahead : l.fn.self.at ≤ l.self.at;
  within : l.self.at ≤ l.fn.self.hi;
  keys : (k : ℕ) → l.fn.self.at ≤ k → k < l.self.at → differs_on l.fn.self k ≡ l.differing;
}

abbrev pub decreases-loop-self : goal.decreases-loop-self
decreases-loop-self l = l.self.hi - l.self.at
