-- What board files say, and why one is refused (this project's form).
use Rattle.std.specs.Prelude.{◌≡◌, ℕ, List, [], ◌∷◌, ◌++◌, length, ◌==◌, Option, None, Some, Result, Ok, Err, codes, if◌then◌else◌}
use Rattle.squall_board.specs.Boards.{BoardValue, empty_board, board_join}
use Rattle.squall_wire.specs.declared.fault.WireFault.{WireFault}
use Rattle.squall_wire.specs.declared.fault.WireFault.TheVariants.{Kind, Short, Spare}
use Rattle.squall_wire.specs.DigestValue.{DigestValue}
use Rattle.squall_wire.specs.FaultText.{text_of_fault}
use Rattle.squall_wire.specs.Messages.{Body, lists, rows}
use Rattle.squall_wire.specs.BoardOf.{board_of_lists}
use Rattle.squall_wire.specs.Reading.{message_at}
use Rattle.squall_wire.specs.Heard.{heard_of}

-- a file by its name
pub record FileValue : Type 0 where
  pub name : List ℕ
  pub bytes : List ℕ

abbrev pub file_with : List ℕ → List ℕ → FileValue
file_with name bytes = record { name = name; bytes = bytes }

-- ---- one board file

-- what its frames say, one after the other, up to the first fault
abbrev pub bodies_in : List ℕ → List Body
bodies_in bytes = (heard_of bytes).bodies

-- the fault of what follows the frames: bytes that are too few for a frame are `Short`
abbrev pub fault_after : Option WireFault → List ℕ → Option WireFault
fault_after (Some fault) rest = Some fault
fault_after None [] = None
fault_after None (x ∷ rest) = Some Short

abbrev pub fault_in : List ℕ → Option WireFault
fault_in bytes = fault_after (heard_of bytes).fault (heard_of bytes).rest

-- the board with the boards of frames joined in, or the first fault: a digest is a frame of another kind
abbrev pub joined_with : BoardValue → List Body → Option WireFault → Result BoardValue WireFault
joined_with b [] None = Ok b
joined_with b [] (Some fault) = Err fault
joined_with b (lists d ∷ bodies) fault = joined_with (board_join b (board_of_lists d)) bodies fault
joined_with b (rows d ∷ bodies) fault = Err Kind

-- the board with those of a file joined in, or the file's first fault
abbrev pub joined_file : BoardValue → List ℕ → Result BoardValue WireFault
joined_file b bytes = joined_with b (bodies_in bytes) (fault_in bytes)

-- ---- several board files

-- the line that refuses a file: its name and its fault
abbrev pub refused_file : List ℕ → WireFault → List ℕ
refused_file name fault = codes "refused " ++ (name ++ (codes " " ++ (text_of_fault fault ++ codes "\n")))

-- why a file is refused: its name and its fault
pub record RefusalValue : Type 0 where
  pub name : List ℕ
  pub fault : WireFault

abbrev pub refusal_with : List ℕ → WireFault → RefusalValue
refusal_with name fault = record { name = name; fault = fault }

-- what comes of a file, and then of the next ones
abbrev pub then_files : List ℕ → Result BoardValue WireFault → (BoardValue → Result BoardValue RefusalValue) → Result BoardValue RefusalValue
then_files name (Ok b) next = next b
then_files name (Err fault) next = Err (refusal_with name fault)

-- the board with those of all files joined in, or why the first file with a fault is refused
abbrev pub joined_files : BoardValue → List FileValue → Result BoardValue RefusalValue
joined_files b [] = Ok b
joined_files b (f ∷ fs) = then_files f.name (joined_file b f.bytes) (λ c. joined_files c fs)

-- the board of board files: the join of all boards in them
abbrev pub files_joined : List FileValue → Result BoardValue RefusalValue
files_joined fs = joined_files empty_board fs

-- the same, with the line that refuses a file
abbrev pub joined_by_line : Result BoardValue RefusalValue → Result BoardValue (List ℕ)
joined_by_line (Ok b) = Ok b
joined_by_line (Err r) = Err (refused_file r.name r.fault)

abbrev pub board_of_files : List FileValue → Result BoardValue (List ℕ)
board_of_files fs = joined_by_line (files_joined fs)

-- ---- the file of a digest

abbrev pub digest_alone : ℕ → Result (Body × ℕ) WireFault → Result DigestValue WireFault
digest_alone size (Ok (rows d, used)) = if used == size then Ok d else Err Spare
digest_alone size (Ok (lists d, used)) = Err Kind
digest_alone size (Err fault) = Err fault

-- the digest of a file that is the frame of one, or the fault: a board is a frame of another kind, and bytes after the frame are spare
abbrev pub digest_of_file : List ℕ → Result DigestValue WireFault
digest_of_file bytes = digest_alone (length bytes) (message_at bytes)

-- ---- what was made

-- a fault was met, or the board was made
abbrev pub JoinsTo : Option WireFault → BoardValue → Result BoardValue WireFault → Type 0
JoinsTo None b joined = joined ≡ Ok b
JoinsTo (Some fault) b joined = joined ≡ Err fault
