use Rattle.std.proofs.Common.{subst}
use Rattle.squall_rows.specs.Rows.{AreOneMap}
use Rattle.squall_store.specs.Memory.{run_on}
use Rattle.squall_world_rows.specs.Seen.{seen}
use Rattle.squall_world_rows.specs.Maps.{map_of}
use Rattle.squall_world_rows.specs.Runs.{IsOneMap}
use Rattle.squall_world_rows.proofs.Come.{one_map_of}
use Rattle.squall_world_rows.proofs.Going.{net_with, map_carried}
use Rattle.squall_world_rows.proofs.world.RowWorld.promised.Goals as goal

pub returns-clause-one_map : goal.returns-clause-one_map
returns-clause-one_map c =
    let n = net_with c.self.inside.world c.self.inside.rows.items c.self.inside.sent.items in
    subst (λ m. IsOneMap (seen m)) c.self.view_is (one_map_of (seen n) (c.one_map.ensures.replies run_on) (c.one_map.ensures.rows run_on) c.self.invariant.come)

pub returns-clause-map : goal.returns-clause-map
returns-clause-map c =
    let n = net_with c.self.inside.world c.self.inside.rows.items c.self.inside.sent.items in
    subst (λ m. AreOneMap (seen m) (map_of (seen m))) c.self.view_is (map_carried (seen n) c.promised.ensures.reached)
