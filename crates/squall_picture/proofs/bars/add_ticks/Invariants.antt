use Rattle.std.specs.Prelude.{string_bytes}
use Rattle.std.proofs.Common.{◌≡◌, ◌++◌, drop}
use Rattle.squall_picture.specs.Bars.{ticks_text}
use Rattle.squall_picture.proofs.bars.add_ticks.Given as goal

abbrev pub invariant-loop-tick : goal.invariant-loop-tick
invariant-loop-tick l = string_bytes l.out ++ ticks_text l.axis (drop l.tick-index l.ticks) ≡ string_bytes l.fn.out ++ ticks_text l.axis l.ticks
