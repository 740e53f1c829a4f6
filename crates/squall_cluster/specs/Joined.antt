-- Boards and routers after letters (this project; join semilattices: Shapiro et al. 2011).
use Rattle.std.specs.Prelude.{◌≡◌, ◌⊎◌, ◌↔◌, true, List}
use Rattle.std.specs.List.{Contains}
use Rattle.squall_join.specs.Laws.{Covers}
use Rattle.squall_course.specs.Change.{Change}
use Rattle.squall_report.specs.Facts.{Fact}
use Rattle.squall_board.specs.Boards.{BoardValue, IsBoard, board_join, says}
use Rattle.squall_router.specs.Routers.{RouterValue, router_with}
use Rattle.squall_cluster_inbox.specs.Letters.{board_after}

-- the join of all of them: it covers the opening board and each of the letters, and each board that covers those covers it
pub record IsJoinOfAll (opening : BoardValue) (letters : List BoardValue) (board : BoardValue) : Type 0 where
  pub start : Covers board_join board opening
  pub letter : (x : BoardValue) → Contains letters x → Covers board_join board x
  pub least : (w : BoardValue) → IsBoard w → Covers board_join w opening → ((x : BoardValue) → Contains letters x → Covers board_join w x)
      → Covers board_join w board

-- each letter of one list is in the other too, in whatever order and number
abbrev pub AreSameLetters : List BoardValue → List BoardValue → Type 0
AreSameLetters xs ys = (x : BoardValue) → Contains xs x ↔ Contains ys x

-- the board has a fact exactly if the opening board has it, or one of the letters
abbrev pub HasFactsOf : BoardValue → List BoardValue → BoardValue → Type 0
HasFactsOf opening letters board = (f : Fact) → (says board f ≡ true) ↔ ((says opening f ≡ true) ⊎ ((x : BoardValue) × Contains letters x × (says x f ≡ true)))

-- the router that a desk shows once these letters are published
abbrev pub shown_router : Change → BoardValue → List BoardValue → RouterValue
shown_router first opening published = router_with first (board_after opening published)

-- a router has absorbed a board: its first course stays, and its board is joined with that one
pub record HasAbsorbed (before : RouterValue) (delta : BoardValue) (after : RouterValue) : Type 0 where
  pub first : after.first ≡ before.first
  pub board : after.board ≡ board_join before.board delta
