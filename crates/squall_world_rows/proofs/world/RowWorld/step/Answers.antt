use Rattle.std.proofs.Common.{subst}
use Rattle.squall_protocol.specs.Promises.{IsReached}
use Rattle.squall_world.specs.Views.{view}
use Rattle.squall_world_rows.specs.Seen.{RowNetValue}
use Rattle.squall_world_rows.proofs.Mapped.{step_maps}
use Rattle.squall_world_rows.proofs.world.RowWorld.step.Goals as goal

pub returns-clause-map : goal.returns-clause-map
returns-clause-map c =
    step_maps c.args.self.now c.happen.new.self c.args.event.now c.happen.result (subst (λ (n : RowNetValue). IsReached (view n.net)) c.self.view_is c.promised.ensures.reached) c.happen.ensures.ok
