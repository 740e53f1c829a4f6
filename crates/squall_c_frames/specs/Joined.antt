-- What the messages of a stream tell together (this project).
use Rattle.std.specs.Prelude.{◌≡◌, List, [], ◌∷◌, Option, Some}
use Rattle.squall_board.specs.Boards.{BoardValue, board_join}
use Rattle.squall_wire.specs.declared.message.Message.{Message}
use Rattle.squall_wire.specs.declared.message.Message.TheVariants.{Delta, Digest}
use Rattle.squall_wire.specs.DigestValue.{DigestValue}

-- the boards that messages bring
abbrev pub deltas_of : List Message → List BoardValue
deltas_of [] = []
deltas_of (Delta b ∷ ms) = b ∷ deltas_of ms
deltas_of (Digest d ∷ ms) = deltas_of ms

-- the messages are one board alone
abbrev pub IsOneDelta : List Message → Type 0
IsOneDelta ms = (b : BoardValue) × (ms ≡ Delta b ∷ [])

-- the last digest that messages bring, or the one before them
abbrev pub last_digest : Option DigestValue → List Message → Option DigestValue
last_digest d [] = d
last_digest d (Delta b ∷ ms) = last_digest d ms
last_digest d (Digest e ∷ ms) = last_digest (Some e) ms

-- what a message tells is joined to a board: a digest tells nothing
abbrev pub JoinsMessage : BoardValue → Message → BoardValue → Type 0
JoinsMessage old (Delta b) new = new ≡ board_join old b
JoinsMessage old (Digest d) new = new ≡ old
