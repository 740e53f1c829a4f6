-- What contracts see of the ends of a desk (this project).
use Rattle.std.specs.Prelude.{◌≡◌, ℕ, List, []}
use Rattle.logbook.specs.Pages.{Book}
use Rattle.squall_course.specs.Change.{Change}
use Rattle.squall_board.specs.Boards.{BoardValue}
use Rattle.squall_board.specs.CourseRoute.{route_by_newest}
use Rattle.squall_cluster_inbox.specs.Letters.{Allowance, AreLetters, board_after}
use Rattle.squall_cluster_desk.specs.Track.{Run}

-- a seat: the list that was published at its last look, and the longest list that it knows
pub record Seen : Type 0 where
  pub seen : List BoardValue
  pub known : List BoardValue

-- a seat that has not looked
abbrev pub nothing_seen : Seen
nothing_seen = record { seen = []; known = [] }

-- a look gave this partition for the key, and this list of letters. The list is of this book, and its letters are allowed. The
-- partition is that of a router of the first course after them
abbrev pub IsLook : Allowance → Book → Change → BoardValue → ℕ → ℕ × Run → Type 0
IsLook allowed book first opening key look =
    (look.1.book ≡ book) × (look.0 ≡ route_by_newest first (board_after opening look.1.log) key) × AreLetters allowed look.1.log

-- the publisher: the list that is published, and the letter in hand, if there is one
pub record Showing : Type 0 where
  pub published : List BoardValue
  pub hand : List BoardValue
