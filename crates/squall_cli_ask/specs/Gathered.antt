-- What is read of named files, one after the other (this project's command line).
use Rattle.std.specs.Prelude.{◌≡◌, ℕ, List, [], ◌∷◌, Bool, true, false, ◌&&◌, ◌||◌, Option, map, All, if◌then◌else◌}
use Rattle.std.specs.List.{list_any, flat_map}
use Rattle.std.specs.Io.KnownBytes.{Consumes, IsAtEnd}
use Rattle.squall_cli_boards.specs.Files.{FileValue}
use Rattle.squall_cli_ask.specs.Files.{KnownFile, is_input, IsWholeFile}

-- the bytes of the file, if it is standard input
abbrev pub bytes_of_input : FileValue → List ℕ
bytes_of_input f = if is_input f.name then f.bytes else []

-- the bytes that were read of standard input
abbrev pub input_bytes : List FileValue → List ℕ
input_bytes files = flat_map bytes_of_input files

-- unless the file is standard input, it has all bytes of what has its name
abbrev pub IsWhole : (List ℕ → KnownFile) → FileValue → Type 0
IsWhole known f = is_input f.name ≡ false → IsWholeFile (known f.name) f.bytes

-- Standard input is read once: if it is named again, that file is empty. `taken` says whether it was named before.
abbrev pub IsReadOnce : Bool → List FileValue → Type 0
IsReadOnce taken [] = Unit {0}
IsReadOnce taken (f ∷ fs) = ((taken && is_input f.name) ≡ true → f.bytes ≡ []) × IsReadOnce (taken || is_input f.name) fs

-- the files of these names were read, each whole, while standard input lost what was read of it
pub record AreRead (known : List ℕ → KnownFile) (old new : Option (List ℕ)) (names : List (List ℕ)) (files : List FileValue) : Type 0 where
  pub named : map (λ f. f.name) files ≡ names
  pub whole : All (IsWhole known) files
  pub input : Consumes old new (input_bytes files)
  pub ended : list_any is_input names ≡ true → IsAtEnd new
  pub once : IsReadOnce false files

-- the bytes are those of one more file, and `taken` says whether standard input was named before
pub record IsNextRead (known : List ℕ → KnownFile) (old new : Option (List ℕ)) (taken : Bool) (name bytes : List ℕ) : Type 0 where
  pub file : is_input name ≡ false → IsWholeFile (known name) bytes × (new ≡ old)
  pub first : is_input name ≡ true → taken ≡ false → Consumes old new bytes × IsAtEnd new
  pub again : is_input name ≡ true → taken ≡ true → (bytes ≡ []) × (new ≡ old)

-- some bytes were read of standard input
abbrev pub TakesSome : Option (List ℕ) → Option (List ℕ) → Type 0
TakesSome old new = (read : List ℕ) × Consumes old new read
