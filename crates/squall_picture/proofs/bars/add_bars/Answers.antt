use Rattle.std.proofs.Common.{◌∙◌}
use Rattle.std.specs.Prelude.{string_bytes}
use Rattle.squall_picture.specs.Bars.{bar_text}
use Rattle.squall_picture.proofs.Texts.{added_next}
use Rattle.squall_picture.proofs.bars.add_bars.Goals as goal

pub loop-range-preserved : goal.loop-range-preserved
loop-range-preserved c = added_next (bar_text c.args.axis.now c.args.y) c.args.ranges.now c.loop-range.range-index c.range-item.result (string_bytes c.loop-range.out) (string_bytes c.add_bar.new.out) c.loop-range-test.true c.range-item.is c.in_ok-add_bar.ensures ∙ c.loop-range.invariant
