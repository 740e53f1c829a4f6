-- What a cluster begins with (this project).
use Rattle.std.specs.Prelude.{◌≡◌}
use Rattle.logbook.specs.Pages.{Book}
use Rattle.squall_course.specs.Change.{Change}
use Rattle.squall_board.specs.Boards.{BoardValue}

-- a start: the book of the letters to be published, the first course, and the opening board
pub record Opening : Type 0 where
  pub book : Book
  pub first : Change
  pub board : BoardValue

-- the start is that of the cluster with this book, this first course and this opening board
abbrev pub IsStartOf : Book → Change → BoardValue → Opening → Type 0
IsStartOf book first board start = (start.book ≡ book) × (start.first ≡ first) × (start.board ≡ board)
