use Rattle.std.specs.Arc.{arc_value}
use Rattle.squall_world.proofs.Named.{router_comes, one_more_role}
use Rattle.squall_world.proofs.starting.routers.Goals as goal

pub loop-number-preserved : goal.loop-number-preserved
loop-number-preserved c =
    let p = c.in_ok-router.field-0 in
    let ps = c.loop-number.peers.items in (
      router_comes (arc_value c.args.first.now) c.loop-number._number ps _ p c.loop-number.invariant.0 c.in_ok-router.ensures.node c.in_ok-push.ensures.items,
      one_more_role ps _ p c.loop-number.invariant.1 c.in_ok-router.ensures.valid c.in_ok-push.ensures.items,
    )
