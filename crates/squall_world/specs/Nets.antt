-- What a world keeps: its nodes in one list, each with the reports that it made, how many it knows of each node's, and what came to it in
-- messages of a part of what their senders knew. Messages are such counts and boards.
use Rattle.std.specs.Prelude.{◌≡◌, ℕ, ◌+◌, ◌-◌, ◌<◌, ◌≤◌, ◌==◌, ◌||◌, nat_lt, Bool, true, false, zero, suc, List, [], ◌∷◌, ◌++◌, length, Option, Some, None, is_some, if◌then◌else◌, slice_index_or, take, drop}
use Rattle.std.specs.List.{position, slice_get, AllByRecursion}
use Rattle.squall_key.specs.Keys.{part_limit}
use Rattle.squall_plan.specs.Ranges.{names}
use Rattle.squall_course.specs.Change.{Change, ArePlans}
use Rattle.squall_report.specs.declared.report.ReportKind.{ReportKind}
use Rattle.squall_report.specs.declared.report.ReportKind.TheVariants.{Loaded as LoadedReport, Done as DoneReport, Opened as OpenedReport, Issued as IssuedReport}
use Rattle.squall_report.specs.Issues.{PlanPair}
use Rattle.squall_board.specs.Boards.{BoardValue, IsBoard, empty_board, board_join, report_board}
use Rattle.squall_router.specs.Routers.{RouterValue}
use Rattle.squall_protocol.specs.Chunks.{ChunkValue}
use Rattle.squall_part.specs.Parts.{PartValue, IsPart}
use Rattle.squall_leader.specs.Leaders.{LeaderValue, IsLeader}
use Rattle.squall_protocol.specs.declared.event.Node.{Node}
use Rattle.squall_protocol.specs.declared.event.Node.TheVariants.{Leader, Part, Router}
use Rattle.squall_world.specs.declared.peer.Role.{Role}
use Rattle.squall_world.specs.declared.peer.Role.TheVariants.{Leader as LeaderRole, Part as PartRole, Router as RouterRole}

-- ---- reports

-- the report issues a course
abbrev pub is_issue : ReportKind PlanPair → Bool
is_issue (LoadedReport number sub part span) = false
is_issue (DoneReport number sub part) = false
is_issue (OpenedReport number sub) = false
is_issue (IssuedReport number issue) = true

-- the join of a board and of reports
abbrev pub reports_to : BoardValue → List (ReportKind PlanPair) → BoardValue
reports_to b [] = b
reports_to b (r ∷ rs) = reports_to (board_join b (report_board r)) rs

abbrev pub reports_board : List (ReportKind PlanPair) → BoardValue
reports_board rs = reports_to empty_board rs

-- ---- nodes

-- a node: what it is, the reports that it made, and how many of each node's reports it knows, its own among them, by place. `extra` is
-- what it heard in messages of a part of what their senders knew, joined
pub record PeerValue : Type 0 where
  pub role : Role
  pub reports : List (ReportKind PlanPair)
  pub known : List ℕ
  pub extra : BoardValue

abbrev pub peer_with : Role → List (ReportKind PlanPair) → List ℕ → BoardValue → PeerValue
peer_with role reports known extra = record { role = role; reports = reports; known = known; extra = extra }

-- a node that knows nothing
abbrev pub new_peer : Role → PeerValue
new_peer role = peer_with role [] [] empty_board

-- a message: how many of each node's reports it has, and what it tells beside them
pub record MessageValue : Type 0 where
  pub known : List ℕ
  pub extra : BoardValue

abbrev pub message_with : List ℕ → BoardValue → MessageValue
message_with known extra = record { known = known; extra = extra }

-- what it has heard, and reported itself
abbrev pub role_board : Role → BoardValue
role_board (LeaderRole l) = l.board
role_board (PartRole p) = p.board
role_board (RouterRole r) = r.board

abbrev pub leader_in : Role → Option LeaderValue
leader_in (LeaderRole l) = Some l
leader_in (PartRole p) = None
leader_in (RouterRole r) = None

abbrev pub part_in : Role → Option PartValue
part_in (LeaderRole l) = None
part_in (PartRole p) = Some p
part_in (RouterRole r) = None

abbrev pub router_in : Role → Option RouterValue
router_in (LeaderRole l) = None
router_in (PartRole p) = None
router_in (RouterRole r) = Some r

-- how many reports of the node at a place it knows
abbrev pub known_at : PeerValue → ℕ → ℕ
known_at p j = slice_index_or p.known j 0

-- it is the partition of that number
abbrev pub is_part_role : ℕ → Role → Bool
is_part_role n (LeaderRole l) = false
is_part_role n (PartRole p) = p.id == n
is_part_role n (RouterRole r) = false

abbrev pub is_part_peer : ℕ → PeerValue → Bool
is_part_peer n p = is_part_role n p.role

-- what holds of each node of its kind
abbrev pub IsRole : Role → Type 0
IsRole (LeaderRole l) = IsLeader l
IsRole (PartRole p) = IsPart p
IsRole (RouterRole r) = IsBoard r.board × ArePlans r.first.old r.first.new

-- it holds of the node, and the board of each report that the node made is a board, as what it heard beside reports is
pub record IsPeer (p : PeerValue) : Type 0 where
  pub role : IsRole p.role
  pub reports : AllByRecursion (λ r. IsBoard (report_board r)) p.reports
  pub extra : IsBoard p.extra

-- ---- counts

-- counts with another one at a place, and zeros up to it if they are too few
abbrev pub noted : ℕ → ℕ → List ℕ → List ℕ
noted zero c [] = c ∷ []
noted zero c (k ∷ ks) = c ∷ ks
noted (suc i) c [] = 0 ∷ noted i c []
noted (suc i) c (k ∷ ks) = k ∷ noted i c ks

-- of two counts at a place the greater one
abbrev pub raised : List ℕ → List ℕ → List ℕ
raised [] ms = ms
raised (k ∷ ks) [] = k ∷ ks
raised (k ∷ ks) (m ∷ ms) = (if nat_lt k m then m else k) ∷ raised ks ms

-- some count of the second is greater than that of the first
abbrev pub is_behind : List ℕ → List ℕ → Bool
is_behind ks [] = false
is_behind [] (m ∷ ms) = nat_lt 0 m || is_behind [] ms
is_behind (k ∷ ks) (m ∷ ms) = nat_lt k m || is_behind ks ms

-- the join of the first reports of each node, as many as its count says
abbrev pub told_from : List PeerValue → List ℕ → BoardValue
told_from [] ks = empty_board
told_from (p ∷ ps) [] = empty_board
told_from (p ∷ ps) (k ∷ ks) = board_join (reports_board (take k p.reports)) (told_from ps ks)

-- the join of the first reports of each node, as many as their counts say, and of a board
abbrev pub told_with : List PeerValue → List ℕ → BoardValue → BoardValue
told_with ps ks extra = board_join (told_from ps ks) extra

-- the join of a board and of the reports from the first counts up to the second ones
abbrev pub news_to : BoardValue → List PeerValue → List ℕ → List ℕ → BoardValue
news_to b [] ks ms = b
news_to b (p ∷ ps) ks [] = b
news_to b (p ∷ ps) [] (m ∷ ms) = news_to (reports_to b (take m p.reports)) ps [] ms
news_to b (p ∷ ps) (k ∷ ks) (m ∷ ms) = news_to (reports_to b (take (m - k) (drop k p.reports))) ps ks ms

-- each node has at least as many reports as its count says
abbrev pub AreWithin : List PeerValue → List ℕ → Type 0
AreWithin ps [] = Unit {0}
AreWithin [] (k ∷ ks) = ⊥
AreWithin (p ∷ ps) (k ∷ ks) = (k ≤ length p.reports) × AreWithin ps ks

-- the node at the place knows its own reports and of others' no more than there are, and its board is the join of just those and of
-- what it heard beside them
pub record IsKnowing (ps : List PeerValue) (at : ℕ) (p : PeerValue) : Type 0 where
  pub within : AreWithin ps p.known
  pub board : role_board p.role ≡ told_with ps p.known p.extra
  pub own : known_at p at ≡ length p.reports

-- a message has no more reports of a node than there are, and what it tells beside them is a board
pub record IsMessage (ps : List PeerValue) (x : MessageValue) : Type 0 where
  pub within : AreWithin ps x.known
  pub extra : IsBoard x.extra

-- ---- all of them

pub record NetValue : Type 0 where
  -- the courses begun, the first at 0, and how many sub-plans were opened of each but the last
  pub courses : List Change
  pub ended : List ℕ
  -- the leader, then the routers, then the partitions in the order in which plans named them
  pub peers : List PeerValue
  pub routers : ℕ
  -- for each partition that there can be, its place among the nodes
  pub places : List (Option ℕ)
  -- what each message has
  pub messages : List MessageValue
  pub chunks : List ChunkValue

-- a course for the case that there is none
abbrev pub no_course : Change
no_course = record { number = 0; old = []; new = [] }

-- the course with which the world began
abbrev pub first_of : NetValue → Change
first_of n = slice_index_or n.courses 0 no_course

-- the course begun last
abbrev pub newest_of : NetValue → Change
newest_of n = slice_index_or n.courses (length n.courses - 1) no_course

-- the place of a node
abbrev pub place_of : NetValue → Node → Option ℕ
place_of n Leader = Some 0
place_of n (Part p) = position (is_part_peer p) n.peers
place_of n (Router r) = if nat_lt r n.routers then Some (r + 1) else None

abbrev pub at_place : {A : Type 0} → List A → Option ℕ → Option A
at_place xs None = None
at_place xs (Some i) = slice_get xs i

abbrev pub peer_of : NetValue → Node → Option PeerValue
peer_of n node = at_place n.peers (place_of n node)

-- the list with another element at a place
abbrev pub put_at : {A : Type 0} → ℕ → A → List A → List A
put_at i x [] = []
put_at zero x (y ∷ ys) = x ∷ ys
put_at (suc i) x (y ∷ ys) = y ∷ put_at i x ys

-- the node is another thing now
abbrev pub turned : PeerValue → Role → PeerValue
turned p role = peer_with role p.reports p.known p.extra

-- the node at the place is another thing now, and made a report
abbrev pub reported : ℕ → PeerValue → Role → ReportKind PlanPair → PeerValue
reported at p role report = peer_with role (p.reports ++ report ∷ []) (noted at (length (p.reports ++ report ∷ [])) p.known) p.extra

-- another node at a place
abbrev pub with_peer : NetValue → ℕ → PeerValue → NetValue
with_peer n at peer = record n { peers = put_at at peer n.peers }

-- ---- what always holds

-- courses are numbered one after another from a number on, and lead between plans
abbrev pub IsChain : ℕ → List Change → Type 0
IsChain n [] = Unit {0}
IsChain n (c ∷ cs) = (c.number ≡ n) × ArePlans c.old c.new × IsChain (n + 1) cs

-- the node at 0 is a leader, which uses the course begun last
pub record IsLed (n : NetValue) : Type 0 where
  pub peer : PeerValue
  pub leader : LeaderValue
  pub there : slice_get n.peers 0 ≡ Some peer
  pub role : peer.role ≡ LeaderRole leader
  pub course : leader.course ≡ Some (newest_of n)

-- after it are the routers, each with the first course
pub record IsRouterAt (n : NetValue) (i : ℕ) : Type 0 where
  pub peer : PeerValue
  pub router : RouterValue
  pub there : slice_get n.peers i ≡ Some peer
  pub role : peer.role ≡ RouterRole router
  pub first : router.first ≡ first_of n

-- and after them the partitions, each with the first course
pub record IsPartAt (n : NetValue) (i : ℕ) : Type 0 where
  pub peer : PeerValue
  pub part : PartValue
  pub there : slice_get n.peers i ≡ Some peer
  pub role : peer.role ≡ PartRole part
  pub first : part.first ≡ first_of n
  pub limit : part.id < part_limit
  -- no other is before it
  pub place : place_of n (Part part.id) ≡ Some i

-- the places of partitions are noted
pub record ArePlaced (n : NetValue) : Type 0 where
  pub length : length n.places ≡ part_limit
  pub each : (p : ℕ) → p < part_limit → slice_get n.places p ≡ Some (place_of n (Part p))

pub record IsNet (n : NetValue) : Type 0 where
  pub some : 0 < length n.courses
  pub chain : IsChain 1 n.courses
  pub ended : length n.courses ≡ length n.ended + 1
  pub led : IsLed n
  pub room : n.routers < length n.peers
  pub routers : (i : ℕ) → 0 < i → i ≤ n.routers → IsRouterAt n i
  pub parts : (i : ℕ) → n.routers < i → i < length n.peers → IsPartAt n i
  pub named : (p : ℕ) → names (first_of n).old p ≡ true → is_some (place_of n (Part p)) ≡ true
  pub placed : ArePlaced n
  pub peers : AllByRecursion IsPeer n.peers
  pub knowing : (i : ℕ) (p : PeerValue) → slice_get n.peers i ≡ Some p → IsKnowing n.peers i p
  pub messages : AllByRecursion (IsMessage n.peers) n.messages
