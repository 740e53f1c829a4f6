use Rattle.std.specs.Prelude.{string_bytes}
use Rattle.std.proofs.Common.{◌≡◌, ◌++◌, drop}
use Rattle.squall_cli_words.specs.RouteText.{leg_lines}
use Rattle.squall_cli_words.proofs.routes.add_legs.Given as goal

abbrev pub invariant-loop-leg : goal.invariant-loop-leg
invariant-loop-leg l = string_bytes l.out ++ leg_lines (drop l.leg-index l.legs) ≡ string_bytes l.fn.out ++ leg_lines l.legs
