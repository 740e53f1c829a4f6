use Rattle.std.proofs.Common.{◌≡◌, drop}
use Rattle.squall_picture.specs.Frame.{has_colour}
use Rattle.squall_picture.proofs.legend.has_colour.Given as goal

abbrev pub invariant-loop-range : goal.invariant-loop-range
invariant-loop-range l = has_colour (drop l.range-index l.ranges) l.colour ≡ has_colour l.ranges l.colour
