-- The rule of the book of letters, and what its steps tell.
use Rattle.std.specs.Prelude.{ℕ, ◌≡◌, ◌⊎◌, ◌==◌, true, List, [], ◌∷◌, ◌++◌, length, MatchBool}
use mathlib.Core.List.{IsPrefix}
use Rattle.logbook.specs.Pages.{Cell, Step, View, Book, Named}
use Rattle.squall_board.specs.Boards.{BoardValue}

-- the first word is the number of letters. A book has two words, of which this one leaves the second at 0
pub record IsKept (cells : List Cell) (log : List BoardValue) : Type 0 where
  pub words : cells ≡ (length log, true) ∷ (0, true) ∷ []

-- a prefix of the list of a book
pub record Run : Type 0 where
  pub book : Book
  pub log : List BoardValue

-- both are prefixes of one list: one of them begins the other
abbrev pub AreOfOneList : List BoardValue → List BoardValue → Type 0
AreOfOneList xs ys = IsPrefix xs ys ⊎ IsPrefix ys xs

abbrev pub head_of : Book → Named
head_of b = record { tracked = true; key = 0; book = b }

-- the letter was added to all that had been seen; or there are more
abbrev pub Adds : Step BoardValue → View BoardValue ℕ → ℕ → View BoardValue ℕ → Type 0
Adds s v found w = MatchBool (found == s.old) (w.0 ≡ v.0 ++ s.ask ∷ []) (length w.0 ≡ found)
