use Rattle.std.proofs.Common.{◌≡◌, ◌++◌, map, drop}
use Rattle.std.specs.Prelude.{string_bytes}
use Rattle.squall_cli_boards.specs.Planned.{key_lines}
use Rattle.squall_cli_boards.proofs.planned.add_keys.Given as goal

-- the text so far, and the keys of the names that are left
abbrev pub invariant-loop-name : goal.invariant-loop-name
invariant-loop-name l = string_bytes l.text ++ key_lines (map string_bytes (drop l.name-index l.names)) ≡ string_bytes l.fn.text ++ key_lines (map string_bytes l.names)
