use Rattle.std.proofs.Common.{◌≡◌, ◌++◌, map}
use Rattle.squall_cli_json.specs.Tokens.{tokens_of_each}
use Rattle.squall_cli_json.specs.Values.{json_of_span}
use Rattle.squall_cli_json.proofs.cell.write_spans.Given as goal

-- what is written, and what is still to be written, are all of it
abbrev pub invariant-loop-span : goal.invariant-loop-span
invariant-loop-span l =
    (l.writer.tokens ++ tokens_of_each (map json_of_span l.span-iterator) ≡ l.initial.writer.tokens ++ tokens_of_each (map json_of_span l.set))
    × (l.writer.before ≡ l.initial.writer.before)
