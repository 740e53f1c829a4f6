use Rattle.std.proofs.Common.{◌≡◌, ◌++◌, ◌+◌, ◌-◌, ◌≤◌, drop, length}
use Rattle.squall_join.specs.Entries.{merged}
use Rattle.squall_join.proofs.merge.merge.Given as goal

abbrev pub invariant-loop-i : goal.invariant-loop-i
invariant-loop-i g l = record {
  i_in : l.i ≤ length l.a;
  j_in : l.j ≤ length l.b;
  so_far : l.out.items ++ merged g.K.Ord.cmp g.V.Join.join (drop l.i l.a) (drop l.j l.b) ≡ merged g.K.Ord.cmp g.V.Join.join l.a l.b;
}

abbrev pub decreases-loop-i : goal.decreases-loop-i
decreases-loop-i g l = (length l.a - l.i) + (length l.b - l.j)
