use Rattle.std.proofs.Common.{arith}
use Rattle.squall_wire.specs.IssueItemLaws.{plan_takes}
use Rattle.squall_wire.proofs.reading.plan.plan_of.Goals as goal

pub plan_from-requires : goal.plan_from-requires
plan_from-requires c =
    let fits = plan_takes c.args.bytes.now (c.in_ok-ranges.ranges.items, c.in_ok-ranges.rest.now) (λ i. omega (arith, c.type_inv.bytes i)) c.in_ok-ranges.ensures in
    rw c.deref.ensures.value fits.1
