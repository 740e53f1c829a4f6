use Rattle.std.proofs.Common.{◌+◌, ◌++◌, length, option_to_list}
use Rattle.squall_span.proofs.Walking.{Walking, IsHead}
use Rattle.squall_span.proofs.walk.covers.Given as goal

abbrev pub invariant-loop-next : goal.invariant-loop-next
invariant-loop-next l = record {
  walk : Walking l.fn.there l.fn.wanted (option_to_list l.own ++ l.there) (option_to_list l.next ++ l.wanted);
  own_head : IsHead l.own l.there;
  next_head : IsHead l.next l.wanted;
}

abbrev pub decreases-loop-next : goal.decreases-loop-next
decreases-loop-next l = length (option_to_list l.own ++ l.there) + length (option_to_list l.next ++ l.wanted)
