-- Letters: the boards that are posted in a cluster (this project).
use Prim.Native.Nat.{zero, suc}
use Rattle.std.specs.Prelude.{ℕ, List, [], ◌∷◌, Option, Some, None}
use Rattle.std.specs.List.{Contains}
use Rattle.squall_report.specs.declared.report.ReportKind.{ReportKind}
use Rattle.squall_report.specs.Issues.{PlanPair}
use Rattle.squall_board.specs.Boards.{BoardValue, IsBoard, HasTaken, board_join}
use Rattle.squall_cluster_inbox.specs.declared.letter.Parcel.{Parcel}

-- which letters may be posted: any, or only the boards of one report of these lists
abbrev pub Allowance : Type 0
Allowance = Option (List (List (ReportKind PlanPair)))

-- the list of number p, and the empty one if there is none
abbrev pub list_at : {A : Type 0} → ℕ → List (List A) → List A
list_at p [] = []
list_at zero (l ∷ ls) = l
list_at (suc p) (l ∷ ls) = list_at p ls

-- the board may be posted
abbrev pub IsAllowed : Allowance → BoardValue → Type 0
IsAllowed None letter = Unit {0}
IsAllowed (Some lists) letter = (p : ℕ) × (r : ReportKind PlanPair) × Contains (list_at p lists) r × HasTaken letter (r ∷ [])

-- it is a board, and may be posted
abbrev pub IsLetter : Allowance → BoardValue → Type 0
IsLetter allowed letter = IsBoard letter × IsAllowed allowed letter

-- each of them is
abbrev pub AreLetters : Allowance → List BoardValue → Type 0
AreLetters allowed [] = Unit {0}
AreLetters allowed (x ∷ xs) = IsLetter allowed x × AreLetters allowed xs

-- what the parcels hold
abbrev pub letters_of : List Parcel → List BoardValue
letters_of [] = []
letters_of (m ∷ ms) = m.letter ∷ letters_of ms

-- the board joined with each of the letters, in their order
abbrev pub board_after : BoardValue → List BoardValue → BoardValue
board_after board [] = board
board_after board (x ∷ xs) = board_after (board_join board x) xs
