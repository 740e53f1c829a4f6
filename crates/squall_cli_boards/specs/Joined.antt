-- What joins files, seen as the definitions see it (this project).
use Rattle.std.specs.Prelude.{◌≡◌, ℕ, ◌<◌, List, ◌∷◌, length, Result, Ok, Err}
use Rattle.squall_board.specs.Boards.{BoardValue}
use Rattle.squall_wire.specs.Messages.{Body}
use Rattle.squall_cli_boards.specs.Files.{bodies_in, fault_in, joined_with, joined_file}

-- the board, or the line that refuses a file, whose bytes are read so
abbrev pub IsJoined : {S : Type 0} → (S → List ℕ) → Result BoardValue S → Result BoardValue (List ℕ) → Type 0
IsJoined bytes (Ok b) joined = joined ≡ Ok b
IsJoined bytes (Err line) joined = joined ≡ Err (bytes line)

-- the first frame of a file says this, and the other bytes follow it: they are fewer, and joined in after what it says
pub record IsFirstOf (bytes : List ℕ) (body : Body) (others : List ℕ) : Type 0 where
  pub fewer : length others < length bytes
  pub joined : (board : BoardValue) → joined_file board bytes ≡ joined_with board (body ∷ bodies_in others) (fault_in others)
