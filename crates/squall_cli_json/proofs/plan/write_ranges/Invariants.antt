use Rattle.std.proofs.Common.{◌≡◌, ◌++◌, map, take}
use Rattle.squall_cli_json.specs.Tokens.{tokens_of_each}
use Rattle.squall_cli_json.specs.Values.{json_of_range}
use Rattle.squall_cli_json.proofs.plan.write_ranges.Given as goal

abbrev pub invariant-loop-range : goal.invariant-loop-range
invariant-loop-range l =
    (l.writer.tokens ≡ l.initial.writer.tokens ++ tokens_of_each (map json_of_range (take l.range-index l.ranges)))
    × (l.writer.before ≡ l.initial.writer.before)
