-- The rule of the desk (this project).
use Rattle.std.specs.Prelude.{◌≡◌, ℕ, List}
use mathlib.Core.Option.{some}
use mathlib.Core.List.{IsPrefix}
use lib.ListN.{get_elem?}
use Rattle.logbook.specs.Pages.{Book}
use Rattle.squall_course.specs.Change.{Change}
use Rattle.squall_board.specs.Boards.{BoardValue}
use Rattle.squall_router.specs.Routers.{RouterValue, router_with}
use Rattle.squall_cluster_inbox.specs.Letters.{Allowance, AreLetters, board_after}
use Rattle.squall_cluster_desk.specs.Track.{Run}

-- The router shown has the first course, and the opening board joined with the letters of the published list. That list is of this book, and its
-- letters are allowed. What each place knows begins that list
abbrev pub Shows : Allowance → Book → Change → BoardValue → RouterValue → Run → List (List BoardValue) → Type 0
Shows allowed book first opening router published views =
    AreLetters allowed published.log × (published.book ≡ book) × (router ≡ router_with first (board_after opening published.log))
    × ((seat : ℕ) (v : List BoardValue) → get_elem? views seat ≡ some v → IsPrefix v published.log)

-- what is known is the published list. It begins with all that was known
abbrev pub Looks : Allowance → Book → Change → BoardValue → List BoardValue → RouterValue → Run → List BoardValue → Type 0
Looks allowed book first opening v router published w =
    AreLetters allowed published.log × (w ≡ published.log) × IsPrefix v published.log × (published.book ≡ book)
    × (router ≡ router_with first (board_after opening published.log))
