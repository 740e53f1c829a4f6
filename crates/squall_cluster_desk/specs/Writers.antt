-- What a clause reads of the writer of a desk (this project).
use Rattle.std.specs.Prelude.{◌≡◌, List, [], ◌++◌, drop}
use Rattle.left_right.specs.declared.Absorb.{Ghosts}
use Rattle.left_right.specs.declared.writer.Writer.{Writer}
use Rattle.logbook.specs.Pages.{Book}
use Rattle.squall_course.specs.Change.{Change}
use Rattle.squall_board.specs.Boards.{BoardValue}
use Rattle.squall_cluster_inbox.specs.Letters.{Allowance}
use Rattle.squall_cluster_desk.specs.declared.shown.Entry.{Entry}
use Rattle.squall_cluster_desk.specs.declared.shown.Shown.{Shown}
use Rattle.squall_cluster_desk.specs.Hand.{letters, ShowsAll}

module _ {V P A S : Type 0} {g : Ghosts Shown Entry S} where
  -- what readers see
  abbrev pub shown : Writer Shown Entry V P A S g → Shown
  shown writer = writer.desk.shown.value

  -- the entries that readers do not see yet
  abbrev pub unshown : Writer Shown Entry V P A S g → List Entry
  unshown writer = drop writer.behind writer.log.items

  -- readers see the entry that waited, and none waits. Its letter is added at the end of the list. What is shown is all of that
  -- list, which is of this book
  abbrev pub HasShown : Allowance → Book → Change → BoardValue → Writer Shown Entry V P A S g → Writer Shown Entry V P A S g → Type 0
  HasShown allowed book first opening before after =
      (unshown after ≡ []) × ((shown after).prefix.log ≡ (shown before).prefix.log ++ letters (unshown before))
      × ((shown after).prefix.book ≡ book) × ShowsAll allowed first opening (shown after)

  -- the same entries wait, and readers see what they saw
  abbrev pub StillWaits : Writer Shown Entry V P A S g → Writer Shown Entry V P A S g → Type 0
  StillWaits before after = (unshown after ≡ unshown before) × (shown after ≡ shown before)
