-- What is promised of each world of a run.
use Rattle.std.specs.Prelude.{◌≡◌, ◌≢◌, ◌⊎◌, ℕ, ◌+◌, ◌<◌, true, false, List, Some}
use Rattle.std.specs.List.{slice_get}
use Rattle.squall_key.specs.Keys.{top}
use Rattle.squall_span.specs.Spans.{span_has}
use Rattle.squall_join.specs.declared.flat.Flat.TheVariants.{Unknown, One}
use Rattle.squall_plan.specs.declared.range.PlanRange.{PlanRange}
use Rattle.squall_plan.specs.Ranges.{owner_of}
use Rattle.squall_course.specs.Change.{Change}
use Rattle.squall_course.specs.Moves.{is_incoming}
use Rattle.squall_report.specs.Cells.{CellPlace}
use Rattle.squall_report.specs.Queries.{Queries}
use Rattle.squall_board.specs.CourseRoute.{IsCourseBy, IsRoutedBy}
use Rattle.squall_errand.specs.declared.errand.Reply.{Reply}
use Rattle.squall_errand.specs.declared.errand.Reply.TheVariants.{Held, Moved, Pending, Behind, Elsewhere}
use Rattle.squall_protocol.specs.Chunks.{ChunkValue}
use Rattle.squall_protocol.specs.declared.event.Node.{Node}
use Rattle.squall_protocol.specs.declared.event.Node.TheVariants.{Part, Router}
use Rattle.squall_protocol.specs.declared.event.Event.{Event}
use Rattle.squall_protocol.specs.declared.event.Event.TheVariants.{Serve}
use Rattle.squall_protocol.specs.declared.answer.Answer.{Answer}
use Rattle.squall_protocol.specs.declared.answer.Answer.TheVariants.{Served}
use Rattle.squall_protocol.specs.Worlds.{WorldValue, course_at, first_course, last_course, WasBegun, pair_at, is_part, start}
use Rattle.squall_protocol.specs.Knowledge.{part_in, Serves}
use Rattle.squall_protocol.specs.Steps.{IsPlan, IsOver, Step, Run}

-- the world comes about by a run from two plans
pub record IsReached (w : WorldValue) : Type 0 where
  pub old : List PlanRange
  pub new : List PlanRange
  pub routers : ℕ
  pub old_plan : IsPlan old
  pub new_plan : IsPlan new
  pub events : List Event
  pub answers : List Answer
  pub run : Run (start old new routers) events answers w

-- ---- one carrier

-- what may carry a key: a partition that holds it, or a chunk
pub data Carrier : Type 0 where
  Holder : (p : ℕ) → Carrier
  Flight : (i : ℕ) → Carrier

-- the chunk has the key, and its destination has not loaded it
abbrev pub IsInFlight : WorldValue → ChunkValue → ℕ → Type 0
IsInFlight w x k = (span_has x.span k ≡ true) × (w.loaded x.number x.dest k ≡ false)

abbrev pub Carries : WorldValue → ℕ → Carrier → Type 0
Carries w k (Holder p) = w.held p k ≡ true
Carries w k (Flight i) = (x : ChunkValue) × (slice_get w.chunks i ≡ Some x) × IsInFlight w x k

-- each key has exactly one carrier
abbrev pub OneCarrier : WorldValue → Type 0
OneCarrier w = (k : ℕ) → k < top → (x : Carrier) × Carries w k x × ((y : Carrier) → Carries w k y → y ≡ x)

-- ---- true reports

-- what is told did happen. A key that is told loaded is loaded. If a partition is told to have all keys of a sub-plan, each of
-- them is loaded there. A sub-plan that is told opened is opened. The numbers of all these were begun. Under a number either
-- nothing is issued, or the number was begun and both plans of its course are issued. So nothing clashes
pub record Happened (w : WorldValue) (f : Queries) : Type 0 where
  pub loaded_begun : (c : CellPlace) (k : ℕ) → f.loaded c k ≡ true → WasBegun w c.number
  pub loaded : (c : CellPlace) (k : ℕ) → f.loaded c k ≡ true → w.loaded c.number c.part k ≡ true
  pub done_begun : (c : CellPlace) → f.done c ≡ true → WasBegun w c.number
  pub done : (c : CellPlace) → f.done c ≡ true → (k : ℕ) → is_incoming (course_at w c.number).old (course_at w c.number).new c.sub c.part k ≡ true → w.loaded c.number c.part k ≡ true
  pub opened_begun : (n t : ℕ) → t < f.opened n → WasBegun w n
  pub opened : (n t : ℕ) → t < f.opened n → t < w.opened n
  pub issued : (n : ℕ) → (f.issued n ≡ Unknown) ⊎ (WasBegun w n × (f.issued n ≡ One (pair_at w n)))

-- all that a node was told did happen
abbrev pub TrueReports : WorldValue → Type 0
TrueReports w = (node : Node) → Happened w (w.facts node)

-- a key that a router sends to another partition than the old one of the course that it uses is loaded there
abbrev pub RoutedIsLoaded : WorldValue → Type 0
RoutedIsLoaded w =
    (r k p : ℕ) (c : Change) → IsCourseBy (first_course w) (w.facts (Router r)) c → IsRoutedBy (first_course w) (w.facts (Router r)) k p → p ≢ owner_of c.old k → w.loaded c.number p k ≡ true

-- ---- one destination

-- the chunks of one source with keys that are not loaded have one destination, and are of the course begun last and its sub-plan opened last
abbrev pub OneDestination : WorldValue → Type 0
OneDestination w =
    (i j k m : ℕ) (a b : ChunkValue) → slice_get w.chunks i ≡ Some a → slice_get w.chunks j ≡ Some b → IsInFlight w a k → IsInFlight w b m → a.source ≡ b.source
    → (a.dest ≡ b.dest) × (a.number ≡ w.last) × (a.sub + 1 ≡ w.opened w.last)

-- the source and the destination of each chunk are there
abbrev pub ChunksHaveNodes : WorldValue → Type 0
ChunksHaveNodes w = (i : ℕ) (x : ChunkValue) → slice_get w.chunks i ≡ Some x → (is_part w x.source ≡ true) × (is_part w x.dest ≡ true)

-- ---- served

-- what a partition to which a router sends a key may reply
abbrev pub IsWelcome : Reply → Type 0
IsWelcome Held = Unit {0}
IsWelcome (Moved dest number) = Unit {0}
IsWelcome (Pending source) = Unit {0}
IsWelcome Behind = ⊥
IsWelcome (Elsewhere p) = ⊥

-- what the partition named by a move of a number may reply when it is asked with that number
abbrev pub IsWelcomeAfter : ℕ → Reply → Type 0
IsWelcomeAfter n Held = Unit {0}
IsWelcomeAfter n (Moved dest number) = n < number
IsWelcomeAfter n (Pending source) = Unit {0}
IsWelcomeAfter n Behind = Unit {0}
IsWelcomeAfter n (Elsewhere p) = ⊥

-- a partition is there, and gives such a reply
abbrev pub Answers : (Reply → Type 0) → Answer → Type 0
Answers P (Served reply) = P reply
Answers P _ = ⊥

-- a partition to which a router sends a key, asked with 0, replies so then and at every later moment
abbrev pub RoutesAreServed : WorldValue → Type 0
RoutesAreServed w =
    (r k p : ℕ) → k < top → IsRoutedBy (first_course w) (w.facts (Router r)) k p
    → (events : List Event) (answers : List Answer) (v u : WorldValue) (answer : Answer) → Run w events answers v → Step v (Serve p k 0) answer u → Answers IsWelcome answer

-- the partition that a move of a number names, asked with that number, replies so then and at every later moment
abbrev pub MovesAreServed : WorldValue → Type 0
MovesAreServed w =
    (p k after d n : ℕ) → Serves (part_in w p) k after (Moved d n)
    → (events : List Event) (answers : List Answer) (v u : WorldValue) (answer : Answer) → Run w events answers v → Step v (Serve d k n) answer u → Answers (IsWelcomeAfter n) answer

-- ---- ends

-- the newest course that the partition knows is not the one begun last, and the source gives no more in it
pub record HasEnded (w : WorldValue) (p source : ℕ) : Type 0 where
  pub course : Change
  pub newest : IsCourseBy (first_course w) (w.facts (Part p)) course
  pub later : course.number < w.last
  pub closed : w.closed course.number source ≡ true

-- a partition that waits for a key gets it: the source that it names holds the key, or a chunk on its way from there has it. One case
-- is left: the newest course that the partition knows has ended early. Then that source gives no more in it, and a later course was
-- begun, of which the partition has yet to hear
abbrev pub AwaitedComes : WorldValue → Type 0
AwaitedComes w =
    (p k after source : ℕ) → Serves (part_in w p) k after (Pending source)
    → (w.held source k ≡ true) ⊎ (((i : ℕ) × (x : ChunkValue) × (slice_get w.chunks i ≡ Some x) × IsInFlight w x k × (x.source ≡ source) × (x.dest ≡ p)) ⊎ HasEnded w p source)

-- once the course begun last is over, each key is held where its new plan has it
abbrev pub OverIsThere : WorldValue → Type 0
OverIsThere w = IsOver w → (k : ℕ) → k < top → w.held (owner_of (last_course w).new k) k ≡ true

-- ---- served, while there is one course

-- a partition to which a router sends a key holds it, or has given it
abbrev pub IsHome : Reply → Type 0
IsHome Held = Unit {0}
IsHome (Moved dest number) = Unit {0}
IsHome (Pending source) = ⊥
IsHome Behind = ⊥
IsHome (Elsewhere p) = ⊥

-- and the one that a move names holds it, or waits for it
abbrev pub IsDue : Reply → Type 0
IsDue Held = Unit {0}
IsDue (Pending source) = Unit {0}
IsDue (Moved dest number) = ⊥
IsDue Behind = ⊥
IsDue (Elsewhere p) = ⊥

abbrev pub FirstRoutesAreHome : WorldValue → Type 0
FirstRoutesAreHome w =
    (r k p : ℕ) → k < top → IsRoutedBy (first_course w) (w.facts (Router r)) k p
    → (events : List Event) (answers : List Answer) (v u : WorldValue) (answer : Answer) → Run w events answers v → v.last ≡ 1 → Step v (Serve p k 0) answer u → Answers IsHome answer

abbrev pub FirstMovesAreDue : WorldValue → Type 0
FirstMovesAreDue w =
    (p k after d n : ℕ) → Serves (part_in w p) k after (Moved d n)
    → (events : List Event) (answers : List Answer) (v u : WorldValue) (answer : Answer) → Run w events answers v → v.last ≡ 1 → Step v (Serve d k n) answer u → Answers IsDue answer
