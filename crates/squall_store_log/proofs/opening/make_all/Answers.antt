use Rattle.squall_store_log.proofs.Cuts.{nothing_read, one_more_read}
use Rattle.squall_store_log.proofs.opening.make_all.Goals as goal

pub loop-after-init : goal.loop-after-init
loop-after-init c = nothing_read c.args.store.now c.args.log.now

pub loop-after-preserved : goal.loop-after-preserved
loop-after-preserved c = one_more_read c.args.store.now c.loop-after.store c.step.new.store c.args.log.now c.loop-after.rest.now c.in-Ok.after.now c.loop-after.invariant c.in-Ok.ensures.ok
