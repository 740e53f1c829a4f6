use Rattle.std.proofs.Common.{sym, ap, ◌∙◌, arith}
use Rattle.squall_part.specs.Fresh.{put_logs}
use Rattle.squall_part.proofs.Put.{puts_last}
use Rattle.squall_part.proofs.log.put_all_ready.Goals as goal

pub loop-log-preserved : goal.loop-log-preserved
loop-log-preserved c = (
  omega (arith, c.loop-log.invariant.0, c.in-Some.ensures.len, c.put_ready.ensures.len, c.put_ready.ensures.capacity),
  ap (put_logs c.pop.new.self.items) c.put_ready.ensures.value ∙ sym (puts_last c.pop.new.self.items c.loop-log.logs.items c.in-Some.log)
      ∙ ap (λ ls. put_logs ls c.loop-log.logs.items) (sym c.in-Some.ensures.items) ∙ c.loop-log.invariant.1,
)
