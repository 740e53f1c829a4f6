use Rattle.std.specs.Prelude.{string_bytes}
use Rattle.std.proofs.Common.{◌≡◌, ◌++◌, drop}
use Rattle.squall_cli_race.specs.RaceText.{route_lines}
use Rattle.squall_cli_race.proofs.show.add_routes.Given as goal

abbrev pub invariant-loop-key : goal.invariant-loop-key
invariant-loop-key l = string_bytes l.out ++ route_lines l.course l.board (drop l.key-index l.keys) ≡ string_bytes l.fn.out ++ route_lines l.course l.board l.keys
