use Rattle.squall_store.proofs.Acts.{asks, gives, gives_at, loads, finishes, absorbs}
use Rattle.squall_store.proofs.laws.a_store_is_a_partition_with_rows.Goals as goal

pub returns-clause-asking : goal.returns-clause-asking
returns-clause-asking g c = λ run. asks run c.a_part_is_a_partition.ensures.serving

pub returns-clause-giving : goal.returns-clause-giving
returns-clause-giving g c = gives c.a_part_is_a_partition.ensures.giving

pub returns-clause-giving_at : goal.returns-clause-giving_at
returns-clause-giving_at g c = gives_at c.a_part_is_a_partition.ensures.giving_at

pub returns-clause-loading : goal.returns-clause-loading
returns-clause-loading g c = loads c.a_part_is_a_partition.ensures.loading c.new_is_held_nowhere.ensures

pub returns-clause-finishing : goal.returns-clause-finishing
returns-clause-finishing g c = finishes c.a_part_is_a_partition.ensures.finishing

pub returns-clause-absorbing : goal.returns-clause-absorbing
returns-clause-absorbing g c = absorbs c.a_part_is_a_partition.ensures.absorbing
