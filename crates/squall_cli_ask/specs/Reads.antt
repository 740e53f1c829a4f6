-- What the program reads and writes, where it is known (this project's command line).
use Rattle.std.specs.Prelude.{ℕ, List, Option, None, MatchBool}
use Rattle.std.specs.Io.KnownBytes.{Consumes, IsAtEnd}
use Rattle.squall_cli_device.specs.States.{SourceState, SinkState}
use Rattle.squall_cli_ask.specs.Files.{KnownFile, is_input, BeginsFile, IsWholeFile}

-- the bytes that the program reads and writes, where they are known: those of files, by their names; those that standard input
-- has left; those that were written to standard output
pub record Bytes : Type 0 where
  pub files : List ℕ → KnownFile
  pub input : Option (List ℕ)
  pub output : Option (List ℕ)

abbrev pub bytes_of : (List ℕ → KnownFile) → Option (List ℕ) → Option (List ℕ) → Bytes
bytes_of files input output = record { files = files; input = input; output = output }

-- the same by where standard input and standard output stand
abbrev pub bytes_at : (List ℕ → KnownFile) → SourceState → SinkState → Bytes
bytes_at files input output = bytes_of files input.remaining output.contents

-- the same if nothing is written to standard output
abbrev pub inputs_at : (List ℕ → KnownFile) → SourceState → Bytes
inputs_at files input = bytes_of files input.remaining None

-- the bytes were read of what the name names: of standard input, which lost them, or of a file
abbrev pub ReadsFrom : Bytes → Bytes → List ℕ → List ℕ → Type 0
ReadsFrom before after name read = MatchBool (is_input name) (Consumes before.input after.input read) (BeginsFile (before.files name) read)

-- they are all its bytes
abbrev pub ReadsAll : Bytes → Bytes → List ℕ → List ℕ → Type 0
ReadsAll before after name read = MatchBool (is_input name) (IsAtEnd after.input) (IsWholeFile (before.files name) read)
