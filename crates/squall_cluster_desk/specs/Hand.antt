-- The letter in hand, which is taken and not published (this project).
use Rattle.std.specs.Prelude.{◌≡◌, List, [], ◌∷◌, ◌++◌, length, Option, Some, None}
use Rattle.logbook.specs.Pages.{Book}
use Rattle.squall_course.specs.Change.{Change}
use Rattle.squall_board.specs.Boards.{BoardValue}
use Rattle.squall_router.specs.Routers.{router_with}
use Rattle.squall_cluster_inbox.specs.Letters.{Allowance, IsLetter, AreLetters, board_after}
use Rattle.squall_cluster_desk.specs.declared.shown.Entry.{Entry}
use Rattle.squall_cluster_desk.specs.declared.shown.Shown.{Shown}

-- the entry as a list, which is empty if there is none
abbrev pub listed : Option Entry → List Entry
listed None = []
listed (Some x) = x ∷ []

-- the letters of these entries
abbrev pub letters : List Entry → List BoardValue
letters [] = []
letters (x ∷ xs) = x.letter ∷ letters xs

-- each entry's letter is allowed, and its list is the one before it with its letter
abbrev pub Follows : Allowance → Book → List BoardValue → List Entry → Type 0
Follows allowed book before [] = Unit {0}
Follows allowed book before (x ∷ xs) =
    IsLetter allowed x.letter × (x.prefix.book ≡ book) × (x.prefix.log ≡ before ++ x.letter ∷ []) × Follows allowed book x.prefix.log xs

-- one entry waits to be shown, and lengthens the list that is shown by an allowed letter
abbrev pub Pending : Allowance → Book → Shown → List Entry → Type 0
Pending allowed book shown waiting = Follows allowed book shown.prefix.log waiting × (length waiting ≡ 1)

-- the router shown has the first course, and the opening board joined with all letters of the list shown, each of which is allowed
abbrev pub ShowsAll : Allowance → Change → BoardValue → Shown → Type 0
ShowsAll allowed first opening shown = (shown.router ≡ router_with first (board_after opening shown.prefix.log)) × AreLetters allowed shown.prefix.log
