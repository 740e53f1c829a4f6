use Rattle.std.proofs.Common.{subst}
use Rattle.std.proofs.lemmas.Result.{on_ok_weaker}
use Rattle.squall_wire.specs.Limits.{FitsPlan}
use Rattle.squall_wire.specs.FitsLaws.{plan_fits}
use Rattle.squall_wire.proofs.items.write_plan.Goals as goal

pub returns-clause-known : goal.returns-clause-known
returns-clause-known c = on_ok_weaker c.write_list.result (λ _. subst FitsPlan c.ranges-2.ensures.value (plan_fits c.ranges-2.result.now c.ranges-2.ensures.canonical c.ranges-2.ensures.ranges c.ranges-2.ensures.few)) c.write_list.ensures.known
