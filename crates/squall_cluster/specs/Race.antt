-- What a race gives: the board of all reports of its lists, and routes by letters that only grow (this project).
use Rattle.std.specs.Prelude.{◌≡◌, ◌<◌, ℕ, List, [], ◌∷◌, ◌++◌, length, map, All, Vec, Some}
use Rattle.std.specs.Global.{Global}
use Rattle.std.specs.List.{AllByRecursion, Contains}
use mathlib.Core.List.{IsPrefix}
use Rattle.atomic_table.specs.Seated.{TableId}
use Rattle.squall_course.specs.Change.{Change}
use Rattle.squall_report.specs.declared.report.Report.{Report}
use Rattle.squall_report.specs.declared.report.ReportKind.{ReportKind}
use Rattle.squall_report.specs.Issues.{PlanPair}
use Rattle.squall_report.specs.Told.{TellsBoth, told_by}
use Rattle.squall_board.specs.Boards.{BoardValue, IsBoard, HasTaken, report_board, told}
use Rattle.squall_board.specs.CourseRoute.{route_by_newest}
use Rattle.squall_cluster_inbox.specs.declared.letter.Parcel.{Parcel}
use Rattle.squall_cluster_inbox.specs.Letters.{Allowance, IsAllowed, AreLetters, letters_of, list_at, board_after}
use Rattle.squall_cluster_inbox.specs.Inbox.{of}
use Rattle.squall_cluster_inbox.specs.Ends.{Posting}
use Rattle.squall_cluster_desk.specs.Start.{Opening}
use Rattle.squall_cluster.specs.declared.cluster.Sizes.{Sizes}
use Rattle.squall_cluster.specs.declared.tasks.Tasks.{Tasks}

abbrev pub Reports : Type 0
Reports = List (ReportKind PlanPair)

-- what these lists hold, list by list
abbrev pub lists_of : List (Vec Report Global) → List Reports
lists_of lists = map (λ l. l.items) lists

-- the reports of these lists, one list after the other
abbrev pub all_of : List Reports → Reports
all_of [] = []
all_of (l ∷ ls) = l ++ all_of ls

-- the boards of these reports, one a report
abbrev pub boards_of : Reports → List BoardValue
boards_of rs = map report_board rs

-- the letters bring these reports: one letter a report, in their order
abbrev pub Bring : List BoardValue → Reports → Type 0
Bring letters rs = (letters ≡ boards_of rs) × AllByRecursion IsBoard letters

-- ---- senders

-- each letter that brings a report of this list is allowed
pub record Within (allowed : Allowance) (rs : Reports) : Type 0 where
  pub each : (letter : BoardValue) (r : ReportKind PlanPair) → Contains rs r → HasTaken letter (r ∷ []) → IsAllowed allowed letter

-- the senders have posted nothing, each has a list, and each letter that brings a report of its list is allowed
abbrev pub Ready : Allowance → List Posting → List (Vec Report Global) → Type 0
Ready allowed senders lists = All (λ s. s.posted ≡ []) senders × (length lists ≡ length senders) × All (λ l. Within allowed l.items) lists

-- two parts of the senders, neither of them empty, are ready, each with its lists
abbrev pub BothReady : Allowance → List Posting → List (Vec Report Global) → List Posting → List (Vec Report Global) → Type 0
BothReady allowed front some back others = ((0 < length front) × (0 < length back)) × Ready allowed front some × Ready allowed back others

-- the inbox of a sender, and its number
abbrev pub end_of : Posting → TableId × ℕ
end_of s = (s.inbox, s.from)

-- each of these senders has posted the list beside it
abbrev pub AllBring : List Posting → List Reports → Type 0
AllBring [] lists = lists ≡ []
AllBring (s ∷ ss) [] = ⊥
AllBring (s ∷ ss) (l ∷ ls) = Bring s.posted l × AllBring ss ls

-- these spent senders are those senders, and each has posted its list
abbrev pub SentAll : List Posting → List Reports → List Posting → Type 0
SentAll senders lists spent = (map end_of spent ≡ map end_of senders) × AllBring spent lists

-- the board after letters of which those of each sender bring its list
abbrev pub Ran : BoardValue → List Reports → BoardValue → Type 0
Ran opening lists board = (taken : List Parcel) × (board ≡ board_after opening (letters_of taken)) × ((p : ℕ) → Bring (of p taken) (list_at p lists))

-- the board of a race of these lists: the opening board after all their reports
pub record IsBoardOfReports (opening : BoardValue) (lists : List Reports) (board : BoardValue) : Type 0 where
  -- whatever the schedule, it is the opening board joined with the boards of the reports, in the order of the lists
  pub joined : board ≡ board_after opening (boards_of (all_of lists))
  -- it tells what the opening board and the reports tell, and nothing else
  pub told : TellsBoth (told board) (told opening) (told_by (all_of lists))
  -- it has taken what the opening board has taken, and all reports
  pub taken : (rs : Reports) → HasTaken opening rs → HasTaken board (rs ++ all_of lists)
  -- it is the opening board after letters of which those of each sender bring its list
  pub letters : Ran opening lists board

-- ---- readers

-- each route is by letters that are allowed, and these begin with those of the route before it
abbrev pub Grown : Allowance → Change → BoardValue → List BoardValue → List ℕ → List ℕ → Type 0
Grown allowed first opening known [] routes = routes ≡ []
Grown allowed first opening known (k ∷ ks) routes =
    (now : List BoardValue) × (rest : List ℕ) × (routes ≡ route_by_newest first (board_after opening now) k ∷ rest)
    × IsPrefix known now × AreLetters allowed now × Grown allowed first opening now ks rest

-- the same, and the letters of the last route
abbrev pub GrownTo : Allowance → Change → BoardValue → List BoardValue → List ℕ → List ℕ → List BoardValue → Type 0
GrownTo allowed first opening known [] routes last = (routes ≡ []) × (known ≡ last)
GrownTo allowed first opening known (k ∷ ks) routes last =
    (now : List BoardValue) × (rest : List ℕ) × (routes ≡ route_by_newest first (board_after opening now) k ∷ rest)
    × IsPrefix known now × AreLetters allowed now × GrownTo allowed first opening now ks rest last

-- the routes of a reader: of each key once, by letters that only grow
abbrev pub Read : Allowance → Change → BoardValue → List ℕ → List ℕ → Type 0
Read allowed first opening keys routes = Grown allowed first opening [] keys routes

-- each of that many readers has routed the keys
abbrev pub AllRead : Allowance → Change → BoardValue → List ℕ → ℕ → List (Vec ℕ Global) → Type 0
AllRead allowed first opening keys readers routes = (length routes ≡ readers) × All (λ r. Read allowed first opening keys r.items) routes

-- ---- tasks

-- the sizes of the cluster in which these tasks are done: it has a sender for each list
abbrev pub sizes_of : Tasks → Sizes
sizes_of tasks = record { senders = length tasks.lists.now; readers = tasks.readers; capacity = tasks.capacity }

-- the routes of a race with this start and these tasks: each reader's are by letters that bring reports of the lists
abbrev pub AreRoutesOf : Opening → Tasks → List (Vec ℕ Global) → Type 0
AreRoutesOf start tasks routes = AllRead (Some (lists_of tasks.lists.now)) start.first start.board tasks.keys.now tasks.readers routes
