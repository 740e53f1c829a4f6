-- What is known of files and their bytes (this project's command line).
use Rattle.std.specs.Prelude.{◌≡◌, ℕ, List, [], ◌++◌, Bool, Option, None, Some, codes}
use Rattle.std.specs.Str.{bytes_eq}
use Rattle.squall_cli_lines.specs.Script.{IsPrefix}

-- what is known of a file of some name: nothing, or that there is none that can be opened, or that there is one, of these bytes
pub data KnownFile : Type 0 where
  Unknown : KnownFile
  Missing : KnownFile
  Holds : List ℕ → KnownFile

-- Opening agrees with what is known. An opened file is given by the bytes that are left of it, where those are known.
abbrev pub Opens : KnownFile → Option (Option (List ℕ)) → Type 0
Opens Unknown opened = Unit {0}
Opens Missing opened = opened ≡ None
Opens (Holds bytes) opened = opened ≡ Some (Some bytes)

-- the bytes were read from the start of the file on
abbrev pub BeginsFile : KnownFile → List ℕ → Type 0
BeginsFile Unknown read = Unit {0}
BeginsFile Missing read = read ≡ []
BeginsFile (Holds bytes) read = IsPrefix read bytes

-- the bytes are all that the file has
abbrev pub IsWholeFile : KnownFile → List ℕ → Type 0
IsWholeFile Unknown read = Unit {0}
IsWholeFile Missing read = ⊥
IsWholeFile (Holds bytes) read = read ≡ bytes

-- the name is that of standard input
abbrev pub is_input : List ℕ → Bool
is_input name = bytes_eq name (codes "-")

-- where the names of the files that were opened are known, these were added
abbrev pub AddsNames : Option (List (List ℕ)) → Option (List (List ℕ)) → List (List ℕ) → Type 0
AddsNames None after names = Unit {0}
AddsNames (Some old) None names = ⊥
AddsNames (Some old) (Some new) names = new ≡ old ++ names
