use Rattle.squall_store.proofs.Systems.{stores_reply_as_one_map, stores_are_one_map}
use Rattle.squall_store.proofs.laws.stores_are_one_map.Goals as goal

pub returns-clause-replies : goal.returns-clause-replies
returns-clause-replies g c = λ run.
    let stores = c.a_store_is_a_partition_with_rows.ensures in
    stores_reply_as_one_map run (record { asking = stores.asking run; giving = stores.giving; giving_at = stores.giving_at; loading = stores.loading; moves = c.rows_follow.ensures.moves })
    (c.one_map.ensures.replies run)

pub returns-clause-rows : goal.returns-clause-rows
returns-clause-rows g c = λ run.
    let stores = c.a_store_is_a_partition_with_rows.ensures in
    stores_are_one_map run (record { asking = stores.asking run; giving = stores.giving; giving_at = stores.giving_at; loading = stores.loading; moves = c.rows_follow.ensures.moves })
    (c.one_map.ensures.rows run)
