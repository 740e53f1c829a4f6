use Rattle.std.proofs.Common.{◌≡◌, ◌++◌, take}
use Rattle.std.specs.List.{flat_map}
use Rattle.squall_cli_json.specs.Tokens.{tokens_of_each}
use Rattle.squall_cli_json.specs.Values.{shown_move}
use Rattle.squall_cli_json.proofs.status.write_moves.Given as goal

abbrev pub invariant-loop-status : goal.invariant-loop-status
invariant-loop-status l =
    (l.writer.tokens ≡ l.initial.writer.tokens ++ tokens_of_each (flat_map (shown_move l.shown) (take l.status-index l.moves)))
    × (l.writer.before ≡ l.initial.writer.before)
