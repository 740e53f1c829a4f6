use Rattle.std.proofs.Common.{◌≡◌, map, length}
use Rattle.std.specs.Prelude.{string_bytes}
use Rattle.squall_cli_boards.specs.Planned.{after_parts, parts_of_words}
use Rattle.squall_cli_boards.proofs.planned.parts_of.Given as goal

-- the ranges so far, and those of the words that are left
abbrev pub invariant-loop-rest : goal.invariant-loop-rest
invariant-loop-rest l = after_parts l.parts.items (parts_of_words (map string_bytes l.rest)) ≡ parts_of_words (map string_bytes l.words)

abbrev pub decreases-loop-rest : goal.decreases-loop-rest
decreases-loop-rest l = length l.rest
