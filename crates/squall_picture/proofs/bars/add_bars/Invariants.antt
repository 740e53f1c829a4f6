use Rattle.std.specs.Prelude.{string_bytes}
use Rattle.std.proofs.Common.{◌≡◌, ◌++◌, drop}
use Rattle.squall_picture.specs.Bars.{bars_text}
use Rattle.squall_picture.proofs.bars.add_bars.Given as goal

abbrev pub invariant-loop-range : goal.invariant-loop-range
invariant-loop-range l = string_bytes l.out ++ bars_text l.axis l.y (drop l.range-index l.ranges) ≡ string_bytes l.fn.out ++ bars_text l.axis l.y l.ranges
