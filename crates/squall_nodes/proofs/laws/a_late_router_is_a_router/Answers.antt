use Rattle.squall_nodes.proofs.Late.{late_routes_by_step, late_absorbs_by_step}
use Rattle.squall_nodes.proofs.laws.a_late_router_is_a_router.Goals as goal

pub returns-clause-routing : goal.returns-clause-routing
returns-clause-routing c = late_routes_by_step

pub returns-clause-absorbing : goal.returns-clause-absorbing
returns-clause-absorbing c = late_absorbs_by_step c.promises.ensures.true_reports
