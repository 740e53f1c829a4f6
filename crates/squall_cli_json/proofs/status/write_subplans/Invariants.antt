use Rattle.std.proofs.Common.{◌≡◌, ◌++◌, map, take}
use Rattle.squall_cli_json.specs.Tokens.{tokens_of_each}
use Rattle.squall_cli_json.specs.Values.{json_of_subplan}
use Rattle.squall_cli_json.proofs.status.write_subplans.Given as goal

abbrev pub invariant-loop-status : goal.invariant-loop-status
invariant-loop-status l =
    (l.writer.tokens ≡ l.initial.writer.tokens ++ tokens_of_each (map json_of_subplan (take l.status-index l.subplans)))
    × (l.writer.before ≡ l.initial.writer.before)
