use Rattle.std.proofs.Common.{◌≡◌, true, false, take}
use Rattle.std.specs.Prelude.{map, string_bytes}
use Rattle.std.specs.List.{list_any}
use Rattle.squall_cli_device.specs.States.{FoundEnd, NoReadFails}
use Rattle.squall_cli_ask.specs.Files.{is_input}
use Rattle.squall_cli_ask.specs.Gathered.{AreRead}
use Rattle.squall_cli_ask.proofs.reading.read_files.Given as goal

-- the files of the names so far were read
abbrev pub invariant-loop-name : goal.invariant-loop-name
invariant-loop-name g l = record {
  files : g.F.Files.known l.files ≡ g.F.Files.known l.fn.files;
  err : l.err ≡ l.fn.err;
  taken : l.is_taken ≡ list_any is_input (map string_bytes (take l.name-index l.names));
  read : AreRead (g.F.Files.known l.fn.files) (g.S.Source.state l.fn.input).remaining (g.S.Source.state l.input).remaining
      (map string_bytes (take l.name-index l.names)) l.read.items;
  kept : l.is_taken ≡ false → l.input ≡ l.fn.input;
  ended : l.is_taken ≡ true → FoundEnd (g.S.Source.state l.fn.input) (g.S.Source.state l.input);
  heeds : NoReadFails (g.S.Source.state l.fn.input) (g.S.Source.state l.input);
}
