use Rattle.std.proofs.Common.{◌≡◌, ◌++◌, map, take}
use Rattle.squall_board.specs.Listed.{cells_of_parts}
use Rattle.squall_cli_json.specs.Tokens.{tokens_of_each}
use Rattle.squall_cli_json.specs.Values.{json_of_cell}
use Rattle.squall_cli_json.proofs.cell.write_parts.Given as goal

abbrev pub invariant-loop-entry : goal.invariant-loop-entry
invariant-loop-entry l =
    (l.writer.tokens ≡ l.initial.writer.tokens ++ tokens_of_each (map json_of_cell (cells_of_parts l.number l.sub (take l.entry-index l.parts))))
    × (l.writer.before ≡ l.initial.writer.before)
