-- What an event does to what a world keeps. Only contracts of private functions use these definitions; those of public functions use the
-- definition of a step of the world.
use Rattle.std.specs.Prelude.{◌≡◌, ℕ, ◌+◌, ◌&&◌, ◌⊎◌, not, false, List, [], ◌∷◌, ◌++◌, length, map, Option, Some, None, is_some, Result, Ok, Err}
use Rattle.std.specs.List.{filter, range_with_len, slice_get, AllByRecursion}
use Rattle.std.specs.declared.alloc.AllocError.{AllocError}
use Rattle.squall_key.specs.Keys.{part_limit}
use Rattle.squall_plan.specs.declared.range.PlanRange.{PlanRange}
use Rattle.squall_plan.specs.Ranges.{names}
use Rattle.squall_course.specs.Change.{Change}
use Rattle.squall_report.specs.declared.report.ReportKind.{ReportKind}
use Rattle.squall_report.specs.Issues.{PlanPair}
use Rattle.squall_report.specs.Told.{TellsAll}
use Rattle.squall_board.specs.Boards.{BoardValue, IsBoard, board_join, empty_board, told}
use Rattle.squall_router.specs.Routers.{RouterValue, router_with, route_of_router}
use Rattle.squall_part.specs.declared.giving.GiveFault.{GiveFault}
use Rattle.squall_part.specs.declared.loading.LoadFault.{LoadFault}
use Rattle.squall_part.specs.declared.loading.Load.TheVariants.{Again as LoadAgain, Loaded as LoadLoaded}
use Rattle.squall_part.specs.declared.finishing.FinishFault.{FinishFault}
use Rattle.squall_protocol.specs.Chunks.{ChunkValue}
use Rattle.squall_part.specs.Parts.{PartValue, IsPart, course_of_part, new_part, closed_by, given_by, loaded_by}
use Rattle.squall_part.specs.Giving.{IsGiven, IsGivenAt, after_close}
use Rattle.squall_part.specs.Loading.{IsLoaded, IsFinished}
use Rattle.squall_part.specs.Serving.{IsReply}
use Rattle.squall_leader.specs.declared.fault.LeaderFault.{LeaderFault}
use Rattle.squall_leader.specs.Leaders.{LeaderValue, IsLeader, IsOpened, IsBegunFrom, IsFinished as IsLeaderFinished, open_report, issue_report, new_leader, after_begin}
use Rattle.squall_protocol.specs.Known.{last_number}
use Rattle.squall_protocol.specs.Worlds.{first_parts}
use Rattle.squall_protocol.specs.declared.event.Node.{Node}
use Rattle.squall_protocol.specs.declared.event.Node.TheVariants.{Part, Router}
use Rattle.squall_protocol.specs.declared.answer.Answer.{Answer}
use Rattle.squall_protocol.specs.declared.answer.Answer.TheVariants.{Opened, Begun, Closed, Gave, Loaded, Again, Finished, Sent, Delivered, Routed, Served, Refused}
use Rattle.squall_protocol.specs.declared.answer.Refusal.{Refusal}
use Rattle.squall_protocol.specs.declared.answer.Refusal.TheVariants.{NoSuch, Running, NoNumber, NotKnown}
use Rattle.squall_nodes.specs.PartCalls.{give_refusal, load_refusal, finish_refusal}
use Rattle.squall_nodes.specs.LeaderCalls.{open_refusal}
use Rattle.squall_world.specs.declared.peer.Role.{Role}
use Rattle.squall_world.specs.declared.peer.Role.TheVariants.{Leader as LeaderRole, Part as PartRole, Router as RouterRole}
use Rattle.squall_world.specs.Nets.{PeerValue, NetValue, MessageValue, peer_with, new_peer, message_with, role_board, is_behind, news_to, raised, turned, reported, first_of, newest_of, place_of, with_peer, ArePlaced, IsRole}
use Rattle.squall_world.specs.Acts.{HasKeys}

-- ---- faults as refusals

-- an answer to an event, as the refusal of a fault
abbrev pub answer_of : Option Refusal → Result Answer AllocError → Type 0
answer_of None (Ok answer) = ⊥
answer_of None (Err error) = Unit {0}
answer_of (Some e) r = r ≡ Ok (Refused e)

-- ---- nodes

-- the partition of the number is at the place
pub record HasPart (n : NetValue) (p at : ℕ) (peer : PeerValue) (part : PartValue) : Type 0 where
  pub place : place_of n (Part p) ≡ Some at
  pub there : slice_get n.peers at ≡ Some peer
  pub role : peer.role ≡ PartRole part
  pub id : part.id ≡ p

-- the leader is at 0
pub record HasLeader (n : NetValue) (peer : PeerValue) (leader : LeaderValue) : Type 0 where
  pub there : slice_get n.peers 0 ≡ Some peer
  pub role : peer.role ≡ LeaderRole leader

-- the node is not there, and nothing changed
abbrev pub IsNoSuch : NetValue → Node → Refusal → NetValue → Type 0
IsNoSuch n node e m = (place_of n node ≡ None) × (e ≡ NoSuch) × (m ≡ n)

-- ---- gifts

-- the partition is another now, and the chunk is on its way
abbrev pub with_gift : NetValue → ℕ → PeerValue → PartValue → ChunkValue → NetValue
with_gift n at peer part chunk = record (with_peer n at (turned peer (PartRole part))) { chunks = n.chunks ++ chunk ∷ [] }

abbrev pub IsGiveIn : NetValue → ℕ → ℕ → Result Answer AllocError → NetValue → Type 0
IsGiveIn n p most (Ok (Gave i x)) m =
    (at : ℕ) × (peer : PeerValue) × (a : PartValue) × (b : PartValue) × HasPart n p at peer a × IsGiven a most (Ok x) b × IsPart b × (i ≡ length n.chunks) × (m ≡ with_gift n at peer b x)
IsGiveIn n p most (Ok (Refused e)) m =
    IsNoSuch n (Part p) e m
    ⊎ ((at : ℕ) × (peer : PeerValue) × (a : PartValue) × (f : GiveFault) × HasPart n p at peer a × IsGiven a most (Err f) a × (give_refusal f ≡ Some e) × (m ≡ n))
IsGiveIn n p most (Ok _) m = ⊥
IsGiveIn n p most (Err e) m = m ≡ n

abbrev pub IsGiveAtIn : NetValue → ℕ → ℕ → Result Answer AllocError → NetValue → Type 0
IsGiveAtIn n p k (Ok (Gave i x)) m =
    (at : ℕ) × (peer : PeerValue) × (a : PartValue) × (b : PartValue) × HasPart n p at peer a × IsGivenAt a k (Ok x) b × IsPart b × (i ≡ length n.chunks) × (m ≡ with_gift n at peer b x)
IsGiveAtIn n p k (Ok (Refused e)) m =
    IsNoSuch n (Part p) e m
    ⊎ ((at : ℕ) × (peer : PeerValue) × (a : PartValue) × (f : GiveFault) × HasPart n p at peer a × IsGivenAt a k (Err f) a × (give_refusal f ≡ Some e) × (m ≡ n))
IsGiveAtIn n p k (Ok _) m = ⊥
IsGiveAtIn n p k (Err e) m = m ≡ n

-- the partition gives no more in its newest course
abbrev pub with_closed_part : NetValue → ℕ → PeerValue → PartValue → NetValue
with_closed_part n at peer part = with_peer n at (turned peer (PartRole (after_close part)))

abbrev pub IsCloseIn : NetValue → ℕ → Answer → NetValue → Type 0
IsCloseIn n p (Closed number) m =
    (at : ℕ) × (peer : PeerValue) × (a : PartValue) × HasPart n p at peer a × IsPart (after_close a) × (number ≡ (course_of_part a).number) × (m ≡ with_closed_part n at peer a)
IsCloseIn n p (Refused e) m = IsNoSuch n (Part p) e m
IsCloseIn n p _ m = ⊥

-- ---- loads and completions

-- the partition is another now, and made a report
abbrev pub with_report : NetValue → ℕ → PeerValue → Role → ReportKind PlanPair → NetValue
with_report n at peer role report = with_peer n at (reported at peer role report)

abbrev pub IsLoadIn : NetValue → ℕ → Result Answer AllocError → NetValue → Type 0
IsLoadIn n i (Ok (Loaded report)) m =
    (x : ChunkValue) × (at : ℕ) × (peer : PeerValue) × (a : PartValue) × (b : PartValue) × (slice_get n.chunks i ≡ Some x) × HasPart n x.dest at peer a
    × IsLoaded a x (Ok (LoadLoaded report)) b × IsPart b × (m ≡ with_report n at peer (PartRole b) report)
IsLoadIn n i (Ok Again) m =
    (x : ChunkValue) × (at : ℕ) × (peer : PeerValue) × (a : PartValue) × (slice_get n.chunks i ≡ Some x) × HasPart n x.dest at peer a × IsLoaded a x (Ok LoadAgain) a × (m ≡ n)
IsLoadIn n i (Ok (Refused e)) m =
    ((slice_get n.chunks i ≡ None) × (e ≡ NoSuch) × (m ≡ n))
    ⊎ (((x : ChunkValue) × (slice_get n.chunks i ≡ Some x) × IsNoSuch n (Part x.dest) e m)
    ⊎ ((x : ChunkValue) × (at : ℕ) × (peer : PeerValue) × (a : PartValue) × (f : LoadFault) × (slice_get n.chunks i ≡ Some x) × HasPart n x.dest at peer a
    × IsLoaded a x (Err f) a × (load_refusal f ≡ Some e) × (m ≡ n)))
IsLoadIn n i (Ok _) m = ⊥
IsLoadIn n i (Err e) m = m ≡ n

abbrev pub IsFinishIn : NetValue → ℕ → ℕ → Result Answer AllocError → NetValue → Type 0
IsFinishIn n p s (Ok (Finished report)) m =
    (at : ℕ) × (peer : PeerValue) × (a : PartValue) × (b : PartValue) × HasPart n p at peer a × IsFinished a s (Ok report) b × IsPart b × (m ≡ with_report n at peer (PartRole b) report)
IsFinishIn n p s (Ok (Refused e)) m =
    IsNoSuch n (Part p) e m
    ⊎ ((at : ℕ) × (peer : PeerValue) × (a : PartValue) × (f : FinishFault) × HasPart n p at peer a × IsFinished a s (Err f) a × (finish_refusal f ≡ Some e) × (m ≡ n))
IsFinishIn n p s (Ok _) m = ⊥
IsFinishIn n p s (Err e) m = m ≡ n

-- ---- the leader

abbrev pub IsOpenIn : NetValue → Result Answer AllocError → NetValue → Type 0
IsOpenIn n (Ok (Opened s)) m =
    (peer : PeerValue) × (a : LeaderValue) × (b : LeaderValue) × (c : Change) × HasLeader n peer a × (a.course ≡ Some c) × IsOpened a (Ok (open_report c s)) b × IsLeader b
    × (m ≡ with_report n 0 peer (LeaderRole b) (open_report c s))
IsOpenIn n (Ok (Refused e)) m = (peer : PeerValue) × (a : LeaderValue) × (f : LeaderFault) × HasLeader n peer a × IsOpened a (Err f) a × (open_refusal f ≡ Some e) × (m ≡ n)
IsOpenIn n (Ok _) m = ⊥
IsOpenIn n (Err e) m = m ≡ n

-- the partitions that a plan names and that have no place yet, in rising number
abbrev pub named_first : NetValue → List PlanRange → List ℕ
named_first n plan = filter (λ p. names plan p && not (is_some (place_of n (Part p)))) (range_with_len 0 part_limit)

-- their nodes
abbrev pub part_peers : Change → List ℕ → List PeerValue
part_peers first ids = map (λ p. new_peer (PartRole (new_part p first))) ids

-- a course is begun, after so many sub-plans of the one before were opened, and nodes come; the places of all partitions are noted
pub record IsBegunNet (n : NetValue) (peer : PeerValue) (opened : ℕ) (leader : LeaderValue) (c : Change) (plan : List PlanRange) (m : NetValue) : Type 0 where
  pub courses : m.courses ≡ n.courses ++ c ∷ []
  pub ended : m.ended ≡ n.ended ++ opened ∷ []
  pub peers : m.peers ≡ (with_report n 0 peer (LeaderRole leader) (issue_report c)).peers ++ part_peers (first_of n) (named_first n plan)
  pub valid : AllByRecursion (λ p. IsRole p.role) (part_peers (first_of n) (named_first n plan))
  pub placed : ArePlaced m
  pub routers : m.routers ≡ n.routers
  pub messages : m.messages ≡ n.messages
  pub chunks : m.chunks ≡ n.chunks

-- the leader begins the next course between two plans, whatever became of the one before
abbrev pub IsCourseIn : NetValue → List PlanRange → List PlanRange → Result Answer AllocError → NetValue → Type 0
IsCourseIn n old new (Ok (Begun number parts)) m =
    (peer : PeerValue) × (a : LeaderValue) × (b : LeaderValue) × (c : Change) × HasLeader n peer a × IsBegunFrom a old new (Ok c) b × IsLeader b × (number ≡ c.number)
    × (parts + n.routers + 1 ≡ length m.peers) × IsBegunNet n peer a.opened b c new m
IsCourseIn n old new (Ok (Refused NoNumber)) m = (peer : PeerValue) × (a : LeaderValue) × HasLeader n peer a × (a.last ≡ last_number) × (m ≡ n)
IsCourseIn n old new (Ok _) m = ⊥
IsCourseIn n old new (Err e) m = m ≡ n

-- the leader's course is over
abbrev pub IsDoneIn : NetValue → Type 0
IsDoneIn n = (peer : PeerValue) × (a : LeaderValue) × HasLeader n peer a × IsLeaderFinished a

abbrev pub IsBeginIn : NetValue → List PlanRange → Result Answer AllocError → NetValue → Type 0
IsBeginIn n plan (Ok (Refused Running)) m = (peer : PeerValue) × (a : LeaderValue) × HasLeader n peer a × (IsLeaderFinished a → ⊥) × (m ≡ n)
IsBeginIn n plan (Ok answer) m = IsDoneIn n × IsCourseIn n (newest_of n).new plan (Ok answer) m
IsBeginIn n plan (Err e) m = m ≡ n

-- the partition of the range is there and holds its keys. If one of them is to leave it, it gives no more in the course begun last
pub record HasRange (n : NetValue) (r : PlanRange) : Type 0 where
  pub at : ℕ
  pub peer : PeerValue
  pub part : PartValue
  pub has : HasPart n r.part at peer part
  pub keys : HasKeys (newest_of n) part r

-- so with each range of the plan
abbrev pub IsLeftIn : NetValue → List PlanRange → Type 0
IsLeftIn n plan = AllByRecursion (HasRange n) plan

abbrev pub IsBeginFromIn : NetValue → List PlanRange → List PlanRange → Result Answer AllocError → NetValue → Type 0
IsBeginFromIn n old new (Ok (Refused Running)) m = (IsLeftIn n old → ⊥) × (m ≡ n)
IsBeginFromIn n old new (Ok answer) m = IsLeftIn n old × IsCourseIn n old new (Ok answer) m
IsBeginFromIn n old new (Err e) m = m ≡ n

-- ---- messages

abbrev pub IsSendIn : NetValue → Node → Result Answer AllocError → NetValue → Type 0
IsSendIn n node (Ok (Sent i)) m =
    (from : ℕ) × (peer : PeerValue) × (place_of n node ≡ Some from) × (slice_get n.peers from ≡ Some peer) × (i ≡ length n.messages)
    × (m ≡ record n { messages = n.messages ++ message_with peer.known peer.extra ∷ [] })
IsSendIn n node (Ok (Refused e)) m = IsNoSuch n node e m
IsSendIn n node (Ok _) m = ⊥
IsSendIn n node (Err e) m = m ≡ n

-- the node knows all that the board tells
abbrev pub KnowsAll : PeerValue → BoardValue → Type 0
KnowsAll peer said = TellsAll (told (role_board peer.role)) (told said)

abbrev pub IsSendPartIn : NetValue → Node → BoardValue → Result Answer AllocError → NetValue → Type 0
IsSendPartIn n node said (Ok (Sent i)) m =
    (from : ℕ) × (peer : PeerValue) × (place_of n node ≡ Some from) × (slice_get n.peers from ≡ Some peer) × KnowsAll peer said × IsBoard said × (i ≡ length n.messages)
    × (m ≡ record n { messages = n.messages ++ message_with [] said ∷ [] })
IsSendPartIn n node said (Ok (Refused e)) m =
    IsNoSuch n node e m
    ⊎ ((from : ℕ) × (peer : PeerValue) × (place_of n node ≡ Some from) × (slice_get n.peers from ≡ Some peer) × (KnowsAll peer said → ⊥) × (e ≡ NotKnown) × (m ≡ n))
IsSendPartIn n node said (Ok _) m = ⊥
IsSendPartIn n node said (Err e) m = m ≡ n

-- the node takes in a board, and is else unchanged
abbrev pub IsTold : Role → BoardValue → Role → Type 0
IsTold (LeaderRole a) d (LeaderRole b) = (b ≡ record a { board = board_join a.board d }) × IsLeader b
IsTold (PartRole a) d (PartRole b) =
    (b.board ≡ board_join a.board d) × (b ≡ record a { board = b.board; logs = b.logs }) × ((n : ℕ) → closed_by b n ≡ closed_by a n) × ((n : ℕ) → given_by b n ≡ given_by a n) × ((n : ℕ) → loaded_by b n ≡ loaded_by a n) × IsPart b
IsTold (RouterRole a) d (RouterRole b) = (b ≡ router_with a.first (board_join a.board d)) × IsRole (RouterRole b)
IsTold _ d _ = ⊥

-- the node has taken the news in, and knows as many reports as the message has, and what it tells beside them
pub record IsHearing (a : PeerValue) (news : BoardValue) (x : MessageValue) (b : PeerValue) : Type 0 where
  pub told : IsTold a.role news b.role
  pub reports : b.reports ≡ a.reports
  pub known : b.known ≡ raised a.known x.known
  pub extra : b.extra ≡ board_join a.extra x.extra

-- what a node is told by a message: the reports that it does not know, and all else
abbrev pub news_of : NetValue → PeerValue → MessageValue → BoardValue
news_of n a x = board_join (news_to empty_board n.peers a.known x.known) x.extra

-- the node knows all that the message tells
abbrev pub IsOld : PeerValue → MessageValue → Type 0
IsOld a x = (is_behind a.known x.known ≡ false) × KnowsAll a x.extra

abbrev pub IsDeliverIn : NetValue → ℕ → Node → Result Answer AllocError → NetValue → Type 0
IsDeliverIn n i node (Ok Delivered) m =
    (at : ℕ) × (x : MessageValue) × (a : PeerValue) × (place_of n node ≡ Some at) × (slice_get n.messages i ≡ Some x) × (slice_get n.peers at ≡ Some a)
    × ((IsOld a x × (m ≡ n))
    ⊎ ((c : PeerValue) × IsHearing a (news_of n a x) x c × (m ≡ with_peer n at c)))
IsDeliverIn n i node (Ok (Refused e)) m = IsNoSuch n node e m ⊎ ((slice_get n.messages i ≡ None) × (e ≡ NoSuch) × (m ≡ n))
IsDeliverIn n i node (Ok _) m = ⊥
IsDeliverIn n i node (Err e) m = m ≡ n

-- ---- questions

abbrev pub IsRouteIn : NetValue → ℕ → ℕ → Answer → Type 0
IsRouteIn n r k (Routed p) = (at : ℕ) × (peer : PeerValue) × (a : RouterValue) × (place_of n (Router r) ≡ Some at) × (slice_get n.peers at ≡ Some peer) × (peer.role ≡ RouterRole a) × (p ≡ route_of_router a k)
IsRouteIn n r k (Refused e) = (place_of n (Router r) ≡ None) × (e ≡ NoSuch)
IsRouteIn n r k _ = ⊥

abbrev pub IsServeIn : NetValue → ℕ → ℕ → ℕ → Answer → Type 0
IsServeIn n p k after (Served reply) = (at : ℕ) × (peer : PeerValue) × (a : PartValue) × HasPart n p at peer a × IsReply a k after reply
IsServeIn n p k after (Refused e) = (place_of n (Part p) ≡ None) × (e ≡ NoSuch)
IsServeIn n p k after _ = ⊥

-- ---- at first

abbrev pub first_course_of : List PlanRange → List PlanRange → Change
first_course_of old new = record { number = 1; old = old; new = new }

-- the leader that has begun the first course
abbrev pub first_leader : List PlanRange → List PlanRange → LeaderValue
first_leader old new = after_begin (new_leader old 0) (first_course_of old new)

abbrev pub leader_peer : List PlanRange → List PlanRange → PeerValue
leader_peer old new = peer_with (LeaderRole (first_leader old new)) (issue_report (first_course_of old new) ∷ []) (1 ∷ []) empty_board

abbrev pub router_peers : Change → ℕ → List PeerValue
router_peers first count = map (λ r. new_peer (RouterRole (router_with first empty_board))) (range_with_len 0 count)

-- a net in which the first course is begun
pub record IsFirstNet (old new : List PlanRange) (count : ℕ) (ids : List ℕ) (m : NetValue) : Type 0 where
  pub courses : m.courses ≡ first_course_of old new ∷ []
  pub ended : m.ended ≡ []
  pub peers : m.peers ≡ leader_peer old new ∷ router_peers (first_course_of old new) count ++ part_peers (first_course_of old new) ids
  pub valid : AllByRecursion (λ p. IsRole p.role) m.peers
  pub placed : ArePlaced m
  pub routers : m.routers ≡ count
  pub messages : m.messages ≡ []
  pub chunks : m.chunks ≡ []

-- a net in which the course is begun, which is the first one, with a node for each partition that one of its plans names
abbrev pub IsFirst : Change → ℕ → NetValue → Type 0
IsFirst c count m = IsFirstNet c.old c.new count (first_parts c.old c.new) m
