-- A system: values of nodes, wherever these run, the chunks that partitions gave, and the boards that nodes sent (this project). All that
-- happens in it are calls of its nodes, with chunks that were given and boards that were sent.
use Rattle.std.specs.Prelude.{◌≡◌, ◌≢◌, ℕ, ◌<◌, ◌==◌, ◌||◌, ◌⊎◌, nat_lt, Bool, true, List, [], ◌∷◌, ◌++◌, map, Result, Ok, Err, Option, None, Some, if◌then◌else◌}
use Rattle.std.specs.List.{slice_get, AllByRecursion}
use Rattle.squall_plan.specs.declared.range.PlanRange.{PlanRange}
use Rattle.squall_key.specs.Keys.{top}
use Rattle.squall_span.specs.Spans.{has}
use Rattle.squall_plan.specs.Ranges.{names, owner_of}
use Rattle.squall_course.specs.Change.{Change}
use Rattle.squall_report.specs.declared.report.ReportKind.{ReportKind}
use Rattle.squall_report.specs.Issues.{PlanPair}
use Rattle.squall_join.specs.declared.flat.Flat.TheVariants.{Unknown}
use Rattle.squall_report.specs.Queries.{queries_by_report}
use Rattle.squall_board.specs.Boards.{BoardValue, IsBoard, empty_board, board_join, report_board, issued}
use Rattle.squall_board.specs.BoardQueries.{queries_of}
use Rattle.squall_protocol.specs.Chunks.{ChunkValue}
use Rattle.squall_protocol.specs.Worlds.{WorldValue}
use Rattle.squall_protocol.specs.Steps.{IsPlan, IsPartOf}
use Rattle.squall_protocol.specs.Promises.{IsReached}
use Rattle.squall_part.specs.declared.giving.GiveFault.{GiveFault}
use Rattle.squall_part.specs.declared.loading.LoadFault.{LoadFault}
use Rattle.squall_part.specs.declared.loading.Load.{Load}
use Rattle.squall_part.specs.declared.finishing.FinishFault.{FinishFault}
use Rattle.squall_part.specs.Parts.{PartValue, IsPart, closed_by, new_part}
use Rattle.squall_part.specs.Giving.{IsGiven, IsGivenAt, after_close}
use Rattle.squall_part.specs.Loading.{IsLoaded, IsFinished}
use Rattle.squall_leader.specs.declared.fault.LeaderFault.{LeaderFault}
use Rattle.squall_leader.specs.Leaders.{LeaderValue, IsLeader, IsOpened, IsBegun, IsBegunFrom, new_leader, after_begin}
use Rattle.squall_router.specs.Routers.{RouterValue, router_with}
use Rattle.squall_replay.specs.Calls.{IsSamePart}
use Rattle.squall_nodes.specs.Standing.{StandsForPart, StandsForLeader, StandsForRouter, IsAbsent}
use Rattle.squall_nodes.specs.PartCalls.{with_chunk, HasAbsorbed}

-- the leader, the partition and the router of each number, if it is there, and all chunks and all boards that were ever given and sent
pub record SystemValue : Type 0 where
  pub leader : LeaderValue
  pub parts : ℕ → Option PartValue
  pub routers : ℕ → Option RouterValue
  pub chunks : List ChunkValue
  pub messages : List BoardValue

-- ---- at first

-- the course from the old plan to the new one, under number 1
abbrev pub first_change : List PlanRange → List PlanRange → Change
first_change old new = record { number = 1; old = old; new = new }

-- a leader that has begun the first course, and new partitions and routers that know it
abbrev pub first_system : List PlanRange → List PlanRange → ℕ → SystemValue
first_system old new routers =
    record {
      leader = after_begin (new_leader old 0) (first_change old new);
      parts = λ p. if names old p || names new p then Some (new_part p (first_change old new)) else None;
      routers = λ r. if nat_lt r routers then Some (router_with (first_change old new) empty_board) else None;
      chunks = [];
      messages = [];
    }

-- ---- what happens

-- another value at a number
abbrev pub put_at : {A : Type 0} → ℕ → A → (ℕ → Option A) → ℕ → Option A
put_at n x xs m = if m == n then Some x else xs m

-- the partition of a number is this one now, and these are the chunks
abbrev pub with_part : SystemValue → ℕ → PartValue → List ChunkValue → SystemValue
with_part s p a chunks = record s { parts = put_at p a s.parts; chunks = chunks }

-- the leader is this one now
abbrev pub with_leader : SystemValue → LeaderValue → SystemValue
with_leader s l = record s { leader = l }

-- the router of a number is this one now
abbrev pub with_router : SystemValue → ℕ → RouterValue → SystemValue
with_router s r x = record s { routers = put_at r x s.routers }

-- a board was sent
abbrev pub with_message : SystemValue → BoardValue → SystemValue
with_message s said = record s { messages = s.messages ++ said ∷ [] }

-- the partition that is there, or else the other one, if it is named
abbrev pub come_to : Option PartValue → Bool → PartValue → Option PartValue
come_to (Some a) named b = Some a
come_to None named b = if named then Some b else None

-- the partitions once a plan is begun: those before, and new ones, made with the first course, of the numbers that this plan names first
abbrev pub come : (ℕ → Option PartValue) → List PlanRange → Change → ℕ → Option PartValue
come parts plan first p = come_to (parts p) (names plan p) (new_part p first)

-- the leader was to begin a course to the plan: if it did, partitions came
abbrev pub with_course : SystemValue → Change → List PlanRange → LeaderValue → Result Change LeaderFault → SystemValue
with_course s first plan l (Ok c) = record s { leader = l; parts = come s.parts plan first }
with_course s first plan l (Err f) = record s { leader = l }

-- A partition has what the plan gives it: it holds each such key. If one of them is to leave it by the course, it gives no more in that
-- course
pub record HasOwn (c : Change) (a : PartValue) (plan : List PlanRange) (p : ℕ) : Type 0 where
  pub held : (k : ℕ) → k < top → owner_of plan k ≡ p → has a.held k ≡ true
  pub closed : (k : ℕ) → k < top → owner_of plan k ≡ p → owner_of c.old k ≢ owner_of c.new k → owner_of c.old k ≡ p → closed_by a c.number ≡ true

-- the plan has each key where the leader's course leaves it: each partition that it names is there, and has what the plan gives it
abbrev pub IsLeftBy : SystemValue → List PlanRange → Type 0
IsLeftBy s plan = (c : Change) → s.leader.course ≡ Some c → (p : ℕ) → names plan p ≡ true → (a : PartValue) × (s.parts p ≡ Some a) × HasOwn c a plan p

-- One call of a node, or one message of it, if the system began with this course. A node may send any part of what its board tells: one
-- report, a delta, a piece, a repair, or all. A partition may die and be rebuilt from the log of its calls: that is another value, which no
-- call tells apart from the one before. (A leader that is rebuilt is the same value, so that is no event.) Questions change nothing and are
-- left out, and so are calls by which a node hears and that fail for want of memory. A leader begins from a plan only if partitions have what
-- the plan gives them. `IsPart` and `IsLeader` are the invariants of types, which the calls `known` give
pub data Happens (first : Change) (s : SystemValue) : SystemValue → Type 0 where
  gives : (p most : ℕ) (a b : PartValue) (r : Result ChunkValue GiveFault) → s.parts p ≡ Some a → IsGiven a most r b → IsPart b → Happens first s (with_part s p b (with_chunk s.chunks r))
  gives_at : (p k : ℕ) (a b : PartValue) (r : Result ChunkValue GiveFault) → s.parts p ≡ Some a → IsGivenAt a k r b → IsPart b → Happens first s (with_part s p b (with_chunk s.chunks r))
  loads : (i : ℕ) (x : ChunkValue) (a b : PartValue) (r : Result Load LoadFault) → slice_get s.chunks i ≡ Some x → s.parts x.dest ≡ Some a → IsLoaded a x r b → IsPart b → Happens first s (with_part s x.dest b s.chunks)
  closes : (p : ℕ) (a : PartValue) → s.parts p ≡ Some a → IsPart (after_close a) → Happens first s (with_part s p (after_close a) s.chunks)
  finishes : (p sub : ℕ) (a b : PartValue) (r : Result (ReportKind PlanPair) FinishFault) → s.parts p ≡ Some a → IsFinished a sub r b → IsPart b → Happens first s (with_part s p b s.chunks)
  part_hears : (p i : ℕ) (a b : PartValue) (said : BoardValue) → s.parts p ≡ Some a → slice_get s.messages i ≡ Some said → HasAbsorbed a said b → IsPart b → Happens first s (with_part s p b s.chunks)
  part_says : (p : ℕ) (a : PartValue) (said : BoardValue) → s.parts p ≡ Some a → IsBoard said → IsPartOf (queries_of said) (queries_of a.board) → Happens first s (with_message s said)
  part_restarts : (p : ℕ) (a b : PartValue) → s.parts p ≡ Some a → IsSamePart a b → IsPart b → Happens first s (with_part s p b s.chunks)
  opens : (m : LeaderValue) (r : Result (ReportKind PlanPair) LeaderFault) → IsOpened s.leader r m → IsLeader m → Happens first s (with_leader s m)
  begins : (plan : List PlanRange) (m : LeaderValue) (r : Result Change LeaderFault) → IsBegun s.leader plan r m → IsLeader m → Happens first s (with_course s first plan m r)
  begins_from : (old new : List PlanRange) (m : LeaderValue) (r : Result Change LeaderFault) → IsLeftBy s old → IsPlan old → IsBegunFrom s.leader old new r m → IsLeader m → Happens first s (with_course s first new m r)
  leader_hears : (i : ℕ) (said : BoardValue) → slice_get s.messages i ≡ Some said → IsLeader (record s.leader { board = board_join s.leader.board said }) → Happens first s (with_leader s (record s.leader { board = board_join s.leader.board said }))
  leader_says : (said : BoardValue) → IsBoard said → IsPartOf (queries_of said) (queries_of s.leader.board) → Happens first s (with_message s said)
  router_hears : (r i : ℕ) (x : RouterValue) (said : BoardValue) → s.routers r ≡ Some x → slice_get s.messages i ≡ Some said → Happens first s (with_router s r (router_with x.first (board_join x.board said)))
  router_says : (r : ℕ) (x : RouterValue) (said : BoardValue) → s.routers r ≡ Some x → IsBoard said → IsPartOf (queries_of said) (queries_of x.board) → Happens first s (with_message s said)

-- to what a system comes by such calls, one after another
pub data Comes (first : Change) (s : SystemValue) : SystemValue → Type 0 where
  still : Comes first s s
  next : (t u : SystemValue) → Comes first s t → Happens first t u → Comes first s u

-- to what a system comes that begins between two plans, with so many routers
abbrev pub HasCome : List PlanRange → List PlanRange → ℕ → SystemValue → Type 0
HasCome old new routers s = Comes (first_change old new) (first_system old new routers) s

-- ---- the world beside it

-- each value is one that its type can have
pub record IsSystem (s : SystemValue) : Type 0 where
  pub leader : IsLeader s.leader
  pub parts : (p : ℕ) (a : PartValue) → s.parts p ≡ Some a → IsPart a
  pub routers : (r : ℕ) (x : RouterValue) → s.routers r ≡ Some x → IsBoard x.board
  pub messages : AllByRecursion IsBoard s.messages

-- each value stands for a node of the world, chunks are the world's, and messages say what the boards say that were sent
pub record StandsForSystem (w : WorldValue) (s : SystemValue) : Type 0 where
  pub leader : StandsForLeader w s.leader
  pub parts : (p : ℕ) (a : PartValue) → s.parts p ≡ Some a → StandsForPart w p a
  pub absent : (p : ℕ) → s.parts p ≡ None → IsAbsent w p
  pub routers : (r : ℕ) (x : RouterValue) → s.routers r ≡ Some x → StandsForRouter w r x
  pub chunks : w.chunks ≡ s.chunks
  pub messages : w.messages ≡ map queries_of s.messages

-- a run: both are plans, and the system came about by calls after it began between them
pub record IsRun (old new : List PlanRange) (routers : ℕ) (s : SystemValue) : Type 0 where
  pub old_plan : IsPlan old
  pub new_plan : IsPlan new
  pub come : HasCome old new routers s

-- beside each such system there is a world that is reached, for whose nodes its values stand
abbrev pub SystemsAreWorlds : Type 0
SystemsAreWorlds = (old new : List PlanRange) (routers : ℕ) (s : SystemValue) → IsRun old new routers s → (w : WorldValue) × IsReached w × StandsForSystem w s

-- ---- what may be sent

-- a report that a board has just taken is a part of what it tells, if nothing was issued before under a number that the report issues
abbrev pub ReportsMayBeSent : Type 0
ReportsMayBeSent =
    (b : BoardValue) (r : ReportKind PlanPair) → IsBoard b → IsBoard (report_board r) → ((n : ℕ) → ((queries_by_report r).issued n ≡ Unknown) ⊎ (issued b n ≡ Unknown))
    → IsPartOf (queries_of (report_board r)) (queries_of (board_join b (report_board r)))

-- all that a board tells is a part of it
abbrev pub BoardsMayBeSent : Type 0
BoardsMayBeSent = (b : BoardValue) → IsPartOf (queries_of b) (queries_of b)

-- a partition that no call tells apart from another stands for what that one stands for
abbrev pub RebuiltPartsStand : Type 0
RebuiltPartsStand = (w : WorldValue) (p : ℕ) (a b : PartValue) → StandsForPart w p a → IsSamePart a b → StandsForPart w p b
