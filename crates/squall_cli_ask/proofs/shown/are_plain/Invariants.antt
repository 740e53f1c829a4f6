use Rattle.std.proofs.Common.{◌≡◌, drop}
use Rattle.std.specs.List.{list_all}
use Rattle.squall_cli_ask.specs.Shown.{is_plain}
use Rattle.squall_cli_ask.proofs.shown.are_plain.Given as goal

-- the bytes that are left are all plain exactly if all are
abbrev pub invariant-loop-byte : goal.invariant-loop-byte
invariant-loop-byte l = list_all is_plain (drop l.byte-index l.bytes) ≡ list_all is_plain l.bytes
