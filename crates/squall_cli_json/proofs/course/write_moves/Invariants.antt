use Rattle.std.proofs.Common.{◌≡◌, ◌++◌, map, take}
use Rattle.squall_cli_json.specs.Tokens.{tokens_of_each}
use Rattle.squall_cli_json.specs.Values.{json_of_move}
use Rattle.squall_cli_json.proofs.course.write_moves.Given as goal

abbrev pub invariant-loop-moving : goal.invariant-loop-moving
invariant-loop-moving l =
    (l.writer.tokens ≡ l.initial.writer.tokens ++ tokens_of_each (map json_of_move (take l.moving-index l.moves)))
    × (l.writer.before ≡ l.initial.writer.before)
