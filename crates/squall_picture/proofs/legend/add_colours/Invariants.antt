use Rattle.std.specs.Prelude.{string_bytes}
use Rattle.std.proofs.Common.{◌≡◌, ◌++◌}
use Rattle.std.specs.List.{flat_map, range_with_len}
use Rattle.squall_picture.specs.Frame.{swatch_text}
use Rattle.squall_picture.proofs.legend.add_colours.Given as goal

abbrev pub invariant-loop-colour : goal.invariant-loop-colour
invariant-loop-colour l = string_bytes l.out ≡ string_bytes l.fn.out ++ flat_map (swatch_text l.old l.new) (range_with_len 0 l.colour)
