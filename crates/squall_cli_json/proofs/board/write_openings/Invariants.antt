use Rattle.std.proofs.Common.{◌≡◌, ◌++◌, map, take}
use Rattle.squall_cli_json.specs.Tokens.{tokens_of_each}
use Rattle.squall_cli_json.specs.Values.{json_of_opening}
use Rattle.squall_cli_json.proofs.board.write_openings.Given as goal

abbrev pub invariant-loop-opening : goal.invariant-loop-opening
invariant-loop-opening l =
    (l.writer.tokens ≡ l.initial.writer.tokens ++ tokens_of_each (map json_of_opening (take l.opening-index l.openings)))
    × (l.writer.before ≡ l.initial.writer.before)
