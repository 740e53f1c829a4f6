use Rattle.std.proofs.Common.{◌≡◌, drop}
use Rattle.std.specs.Prelude.{map, string_bytes}
use Rattle.std.specs.List.{list_any}
use Rattle.squall_cli_ask.specs.Files.{is_input}
use Rattle.squall_cli_ask.proofs.stream.names_input.Given as goal

-- one of the names that are left is that of standard input exactly if one of all is
abbrev pub invariant-loop-name : goal.invariant-loop-name
invariant-loop-name l = list_any is_input (map string_bytes (drop l.name-index l.names)) ≡ list_any is_input (map string_bytes l.names)
