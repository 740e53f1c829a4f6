use Rattle.std.proofs.Common.{◌∙◌}
use Rattle.std.specs.Prelude.{string_bytes}
use Rattle.squall_picture.specs.Bars.{tick_text}
use Rattle.squall_picture.proofs.Texts.{added_next}
use Rattle.squall_picture.proofs.bars.add_ticks.Goals as goal

pub loop-tick-preserved : goal.loop-tick-preserved
loop-tick-preserved c = added_next (tick_text c.args.axis.now) c.args.ticks.now c.loop-tick.tick-index c.tick-item.result (string_bytes c.loop-tick.out) (string_bytes c.add_tick.new.out) c.loop-tick-test.true c.tick-item.is c.in_ok-add_tick.ensures ∙ c.loop-tick.invariant
