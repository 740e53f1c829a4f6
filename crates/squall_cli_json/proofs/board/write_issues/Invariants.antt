use Rattle.std.proofs.Common.{◌≡◌, ◌++◌, map, take}
use Rattle.std.specs.Arc.{arc_value}
use Rattle.std.specs.List.{flat_map as joined_map}
use Rattle.squall_join.specs.Flats.{flat_map}
use Rattle.squall_cli_json.specs.Tokens.{tokens_of_each}
use Rattle.squall_cli_json.specs.Values.{issue_items}
use Rattle.squall_cli_json.proofs.board.write_issues.Given as goal

abbrev pub invariant-loop-entry : goal.invariant-loop-entry
invariant-loop-entry l =
    (l.writer.tokens ≡ l.initial.writer.tokens ++ tokens_of_each (joined_map issue_items (map (λ e. (e.0, flat_map arc_value e.1)) (take l.entry-index l.issues))))
    × (l.writer.before ≡ l.initial.writer.before)
