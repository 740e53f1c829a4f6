-- What is promised of systems, in the words of their nodes: no world is named (this project).
use Rattle.std.specs.Prelude.{◌≡◌, ◌≢◌, ◌⊎◌, ℕ, ◌+◌, ◌<◌, ◌≤◌, true, false, List, Some}
use Rattle.std.specs.List.{slice_get}
use Rattle.squall_key.specs.Keys.{top}
use Rattle.squall_span.specs.Spans.{has, span_has}
use Rattle.squall_join.specs.declared.flat.Flat.TheVariants.{Unknown, One}
use Rattle.squall_plan.specs.declared.range.PlanRange.{PlanRange}
use Rattle.squall_plan.specs.Ranges.{owner_of}
use Rattle.squall_course.specs.Change.{Change}
use Rattle.squall_course.specs.Moves.{is_incoming}
use Rattle.squall_report.specs.Issues.{PlanPair}
use Rattle.squall_report.specs.Cells.{CellPlace}
use Rattle.squall_report.specs.Facts.{LoadedKey, DonePart}
use Rattle.squall_board.specs.Boards.{BoardValue, issued, says, opened_count}
use Rattle.squall_errand.specs.declared.errand.Reply.{Reply}
use Rattle.squall_errand.specs.declared.errand.Reply.TheVariants.{Moved, Pending}
use Rattle.squall_protocol.specs.Chunks.{ChunkValue}
use Rattle.squall_protocol.specs.Promises.{Carrier, IsWelcome, IsWelcomeAfter, IsHome, IsDue}
use Rattle.squall_protocol.specs.Promises.Carrier.{Holder, Flight}
use Rattle.squall_part.specs.Parts.{PartValue, course_of_part, closed_by, loaded_by}
use Rattle.squall_part.specs.Serving.{IsReply}
use Rattle.squall_leader.specs.Leaders.{IsFinished}
use Rattle.squall_router.specs.Routers.{RouterValue, course_of_router, route_of_router}
use Rattle.squall_nodes.specs.Systems.{SystemValue, first_change, Comes, IsRun}

-- ---- one carrier

-- the chunk has the key, and its destination, if that is there, has not loaded it
abbrev pub IsOnWay : SystemValue → ChunkValue → ℕ → Type 0
IsOnWay s x k = (span_has x.span k ≡ true) × ((a : PartValue) → s.parts x.dest ≡ Some a → has (loaded_by a x.number) k ≡ false)

-- the partition holds the key, or the chunk has it on its way
abbrev pub CarriesIn : SystemValue → ℕ → Carrier → Type 0
CarriesIn s k (Holder p) = (a : PartValue) × (s.parts p ≡ Some a) × (has a.held k ≡ true)
CarriesIn s k (Flight i) = (x : ChunkValue) × (slice_get s.chunks i ≡ Some x) × IsOnWay s x k

-- each key has exactly one carrier
abbrev pub KeysAreSomewhere : Type 0
KeysAreSomewhere =
    (old new : List PlanRange) (routers : ℕ) (s : SystemValue) → IsRun old new routers s
    → (k : ℕ) → k < top → (x : Carrier) × CarriesIn s k x × ((y : Carrier) → CarriesIn s k y → y ≡ x)

-- ---- true reports

-- the partition is there, and has loaded the key under the number
abbrev pub HasLoaded : SystemValue → ℕ → ℕ → ℕ → Type 0
HasLoaded s p n k = (a : PartValue) × (s.parts p ≡ Some a) × (has (loaded_by a n) k ≡ true)

-- the board of a node of the system
pub data IsBoardIn (s : SystemValue) : BoardValue → Type 0 where
  of_leader : IsBoardIn s s.leader.board
  of_part : (p : ℕ) (a : PartValue) → s.parts p ≡ Some a → IsBoardIn s a.board
  of_router : (r : ℕ) (x : RouterValue) → s.routers r ≡ Some x → IsBoardIn s x.board

-- What the board says did happen. A key that it says loaded is loaded at the partition that it names. If it says a partition done, all keys
-- are loaded there that come in by the plans that a node has under that number. A sub-plan that it says open was opened. Under a number it has
-- no issue, or one pair of plans, and no node has another pair
pub record HappenedIn (s : SystemValue) (b : BoardValue) : Type 0 where
  pub loaded : (c : CellPlace) (k : ℕ) → says b (LoadedKey c k) ≡ true → HasLoaded s c.part c.number k
  pub done : (c : CellPlace) (d : BoardValue) (pair : PlanPair) (k : ℕ) → says b (DonePart c) ≡ true → IsBoardIn s d → issued d c.number ≡ One pair
      → is_incoming pair.old pair.new c.sub c.part k ≡ true → HasLoaded s c.part c.number k
  pub opened : (n t : ℕ) (c : Change) → t < opened_count b n → s.leader.course ≡ Some c → (n ≤ c.number) × (n ≡ c.number → t < s.leader.opened)
  pub issued : (n : ℕ) → (issued b n ≡ Unknown) ⊎ ((pair : PlanPair) × (issued b n ≡ One pair)
      × ((d : BoardValue) (other : PlanPair) → IsBoardIn s d → issued d n ≡ One other → other ≡ pair))

-- what nodes have heard did happen
abbrev pub ReportsAreTrue : Type 0
ReportsAreTrue = (old new : List PlanRange) (routers : ℕ) (s : SystemValue) → IsRun old new routers s → (b : BoardValue) → IsBoardIn s b → HappenedIn s b

-- a router may send a key to another partition than the old one of the course that it uses. That partition is there and has loaded the key
abbrev pub RoutedKeysAreLoaded : Type 0
RoutedKeysAreLoaded =
    (old new : List PlanRange) (routers : ℕ) (s : SystemValue) → IsRun old new routers s
    → (r k : ℕ) (x : RouterValue) → s.routers r ≡ Some x → route_of_router x k ≢ owner_of (course_of_router x).old k
    → HasLoaded s (route_of_router x k) (course_of_router x).number k

-- ---- chunks

-- the chunks of one source that are on their way have one destination, and are of the leader's course and its sub-plan opened last
abbrev pub SourcesFeedOne : Type 0
SourcesFeedOne =
    (old new : List PlanRange) (routers : ℕ) (s : SystemValue) → IsRun old new routers s
    → (i j k m : ℕ) (x y : ChunkValue) → slice_get s.chunks i ≡ Some x → slice_get s.chunks j ≡ Some y → IsOnWay s x k → IsOnWay s y m → x.source ≡ y.source
    → (x.dest ≡ y.dest) × ((c : Change) → s.leader.course ≡ Some c → (x.number ≡ c.number) × (x.sub + 1 ≡ s.leader.opened))

-- the source and the destination of each chunk are there
abbrev pub ChunksHaveParts : Type 0
ChunksHaveParts =
    (old new : List PlanRange) (routers : ℕ) (s : SystemValue) → IsRun old new routers s
    → (i : ℕ) (x : ChunkValue) → slice_get s.chunks i ≡ Some x → (a : PartValue) × (b : PartValue) × (s.parts x.source ≡ Some a) × (s.parts x.dest ≡ Some b)

-- ---- served

-- the partition is there, and each reply that it gives for the key and the number of the last move is such a one
abbrev pub Replies : SystemValue → ℕ → ℕ → ℕ → (Reply → Type 0) → Type 0
Replies s p k after P = (a : PartValue) × (s.parts p ≡ Some a) × ((reply : Reply) → IsReply a k after reply → P reply)

-- the partition to which a router sends a key is there, then and at every later moment, and if it is asked with 0 it holds the key, waits
-- for it, or names the partition to which it went
abbrev pub RoutersAreRight : Type 0
RoutersAreRight =
    (old new : List PlanRange) (routers : ℕ) (s t : SystemValue) → IsRun old new routers s → Comes (first_change old new) s t
    → (r k : ℕ) (x : RouterValue) → k < top → s.routers r ≡ Some x → Replies t (route_of_router x k) k 0 IsWelcome

-- the partition that a move names is there, then and at every later moment, and if it is asked with the move's number it holds the key,
-- waits for it, has not heard of the number, or names a partition under a later number
abbrev pub MovesAreRight : Type 0
MovesAreRight =
    (old new : List PlanRange) (routers : ℕ) (s t : SystemValue) → IsRun old new routers s → Comes (first_change old new) s t
    → (p k after d n : ℕ) (b : PartValue) → s.parts p ≡ Some b → IsReply b k after (Moved d n) → Replies t d k n (IsWelcomeAfter n)

-- ---- ends

-- the newest course that the partition knows ended early: the leader's has a greater number, and the source gives no more in it
pub record HasEndedIn (s : SystemValue) (a : PartValue) (source : ℕ) : Type 0 where
  pub later : (c : Change) → s.leader.course ≡ Some c → (course_of_part a).number < c.number
  pub giver : PartValue
  pub there : s.parts source ≡ Some giver
  pub closed : closed_by giver (course_of_part a).number ≡ true

-- a partition that waits for a key gets it: the source that it names is there and holds the key, or a chunk on its way from there to it has
-- the key. One case is left: the newest course that it knows ended early, and it has yet to hear of a later one
abbrev pub AwaitedKeysCome : Type 0
AwaitedKeysCome =
    (old new : List PlanRange) (routers : ℕ) (s : SystemValue) → IsRun old new routers s
    → (p k after source : ℕ) (a : PartValue) → s.parts p ≡ Some a → IsReply a k after (Pending source)
    → CarriesIn s k (Holder source)
    ⊎ (((i : ℕ) × (x : ChunkValue) × (slice_get s.chunks i ≡ Some x) × IsOnWay s x k × (x.source ≡ source) × (x.dest ≡ p)) ⊎ HasEndedIn s a source)

-- once the leader's course is over, each key is held by the partition to which its new plan gives it
abbrev pub KeysAreWhereDue : Type 0
KeysAreWhereDue =
    (old new : List PlanRange) (routers : ℕ) (s : SystemValue) → IsRun old new routers s → IsFinished s.leader
    → (c : Change) → s.leader.course ≡ Some c → (k : ℕ) → k < top → CarriesIn s k (Holder (owner_of c.new k))

-- ---- served, while there is one course

-- the leader's course is the first
abbrev pub IsAtFirst : SystemValue → Type 0
IsAtFirst s = (c : Change) × (s.leader.course ≡ Some c) × (c.number ≡ 1)

-- while there is one course, the partition to which a router sends a key holds it, or has given it
abbrev pub FirstRoutersAreHome : Type 0
FirstRoutersAreHome =
    (old new : List PlanRange) (routers : ℕ) (s t : SystemValue) → IsRun old new routers s → Comes (first_change old new) s t → IsAtFirst t
    → (r k : ℕ) (x : RouterValue) → k < top → s.routers r ≡ Some x → Replies t (route_of_router x k) k 0 IsHome

-- while there is one course, the partition that a move names holds the key, or waits for it
abbrev pub MovesAreDue : Type 0
MovesAreDue =
    (old new : List PlanRange) (routers : ℕ) (s t : SystemValue) → IsRun old new routers s → Comes (first_change old new) s t → IsAtFirst t
    → (p k after d n : ℕ) (b : PartValue) → s.parts p ≡ Some b → IsReply b k after (Moved d n) → Replies t d k n IsDue
