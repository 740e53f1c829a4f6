use Rattle.squall_c_changes.proofs.Passing.{begins}
use Rattle.squall_c_changes.proofs.walk.Walk.new.Goals as goal

pub invariant_of-result : goal.invariant_of-result
invariant_of-result c =
    begins c.args.old_table.now c.args.new_table.now c.args.from c.rank.result c.args.hi c.from.result c.from-2.result c.rank.ensures.value c.from.ensures c.from-2.ensures c.requires.order c.requires.high
