use Rattle.std.proofs.Common.{◌≡◌, map, drop}
use Rattle.std.specs.Prelude.{string_bytes}
use Rattle.squall_cli_boards.specs.Planned.{after_parts}
use Rattle.squall_cli_boards.specs.Shared.{parts_listed}
use Rattle.squall_cli_boards.proofs.shared.parts_listed.Given as goal

-- the partitions so far, and those of the words that are left
abbrev pub invariant-loop-word : goal.invariant-loop-word
invariant-loop-word l = after_parts l.parts.items (parts_listed (map string_bytes (drop l.word-index l.words))) ≡ parts_listed (map string_bytes l.words)
