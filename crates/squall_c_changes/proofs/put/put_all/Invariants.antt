use Rattle.std.proofs.Common.{◌≡◌, ◌-◌, length}
use Rattle.squall_plan.specs.Ranges.{owner_of}
use Rattle.squall_c_changes.specs.Walks.{walk_at}
use Rattle.squall_c_changes.proofs.Spanning.{Put}
use Rattle.squall_c_changes.proofs.put.put_all.Given as goal

abbrev pub invariant-loop-count : goal.invariant-loop-count
invariant-loop-count l = record {
  put : Put (owner_of l.fn.walk.old_table) (owner_of l.fn.walk.new_table) l.fn.walk.at l.rest.at l.fn.walk.hi l.fn.room l.count l.room;
  rest : l.rest ≡ walk_at l.fn.walk l.rest.at;
}

abbrev pub decreases-loop-count : goal.decreases-loop-count
decreases-loop-count l = length l.initial.room - l.count
