-- What a node does to itself. Only contracts of private functions use these definitions.
use Rattle.std.specs.Prelude.{◌≡◌, ◌⊎◌, ℕ, ◌==◌, ◌&&◌, nat_lt, Bool, true, List, Result, Ok, Err, Some}
use Rattle.squall_plan.specs.declared.range.PlanRange.{PlanRange}
use Rattle.squall_span.specs.Spans.{has, span_has}
use Rattle.squall_plan.specs.Ranges.{owner_of}
use Rattle.squall_course.specs.Change.{Change}
use Rattle.squall_course.specs.Subplans.{moves}
use Rattle.squall_course.specs.declared.moving.Move.{Move}
use Rattle.squall_report.specs.declared.report.ReportKind.{ReportKind}
use Rattle.squall_report.specs.Issues.{PlanPair}
use Rattle.squall_part.specs.declared.giving.GiveFault.{GiveFault}
use Rattle.squall_part.specs.declared.loading.LoadFault.{LoadFault}
use Rattle.squall_part.specs.declared.loading.LoadFault.TheVariants.{NoMemory as NoRoomToLoad}
use Rattle.squall_part.specs.declared.loading.Load.{Load}
use Rattle.squall_part.specs.declared.loading.Load.TheVariants.{Again, Loaded}
use Rattle.squall_part.specs.declared.finishing.FinishFault.{FinishFault}
use Rattle.squall_part.specs.declared.finishing.FinishFault.TheVariants.{NoMemory as NoRoomToFinish}
use Rattle.squall_protocol.specs.Chunks.{ChunkValue}
use Rattle.squall_part.specs.Parts.{PartValue, IsPart, course_of_part, closed_by}
use Rattle.squall_part.specs.Giving.{after_close}
use Rattle.squall_part.specs.Loading.{IsLoaded, IsFinished}
use Rattle.squall_leader.specs.declared.fault.LeaderFault.{LeaderFault}
use Rattle.squall_leader.specs.declared.fault.LeaderFault.TheVariants.{NoMemory as NoRoomToLead}
use Rattle.squall_leader.specs.Leaders.{LeaderValue, IsLeader, IsOpened, IsBegunFrom, open_report}
use Rattle.squall_world.specs.declared.peer.Role.TheVariants.{Leader as LeaderRole, Part as PartRole}
use Rattle.squall_world.specs.Nets.{PeerValue, turned, reported}

-- the node is a partition
pub record IsPartPeer (p : PeerValue) : Type 0 where
  pub part : PartValue
  pub role : p.role ≡ PartRole part

-- the move takes keys of the range from its partition
abbrev pub takes : Move → PlanRange → Bool
takes m r = (m.source == r.part) && (nat_lt m.span.lo r.span.hi && nat_lt r.span.lo m.span.hi)

-- a key of the range is to leave its partition by the course
abbrev pub Loses : Change → PlanRange → Type 0
Loses c r = (k : ℕ) × (span_has r.span k ≡ true) × (moves c.old c.new k ≡ true) × (owner_of c.old k ≡ r.part)

-- the partition holds the keys of the range. If one of them is to leave it by the course, it gives no more in that
pub record HasKeys (c : Change) (a : PartValue) (r : PlanRange) : Type 0 where
  pub held : (k : ℕ) → span_has r.span k ≡ true → has a.held k ≡ true
  pub closed : Loses c r → closed_by a c.number ≡ true

-- the node is a leader
pub record IsLeaderPeer (p : PeerValue) : Type 0 where
  pub leader : LeaderValue
  pub role : p.role ≡ LeaderRole leader

-- what came of a demand at a partition
abbrev pub Gives : (PartValue → Result ChunkValue GiveFault → PartValue → Type 0) → PeerValue → Result ChunkValue GiveFault → PeerValue → Type 0
Gives Asked p (Ok x) q = (a : PartValue) × (b : PartValue) × (p.role ≡ PartRole a) × Asked a (Ok x) b × IsPart b × (q ≡ turned p (PartRole b))
Gives Asked p (Err f) q = (a : PartValue) × (p.role ≡ PartRole a) × Asked a (Err f) a × (q ≡ p)

-- the partition gives no more in its newest course
abbrev pub Closes : PeerValue → ℕ → PeerValue → Type 0
Closes p number q = (a : PartValue) × (p.role ≡ PartRole a) × (number ≡ (course_of_part a).number) × IsPart (after_close a) × (q ≡ turned p (PartRole (after_close a)))

-- what came of a chunk at a partition: the node may lack memory for the report before it asks the partition
abbrev pub Loads : ℕ → PeerValue → ChunkValue → Result Load LoadFault → PeerValue → Type 0
Loads at p x (Ok (Loaded report)) q = (a : PartValue) × (b : PartValue) × (p.role ≡ PartRole a) × IsLoaded a x (Ok (Loaded report)) b × IsPart b × (q ≡ reported at p (PartRole b) report)
Loads at p x (Ok Again) q = (a : PartValue) × (p.role ≡ PartRole a) × IsLoaded a x (Ok Again) a × (q ≡ p)
Loads at p x (Err f) q = (a : PartValue) × (p.role ≡ PartRole a) × ((f ≡ NoRoomToLoad) ⊎ IsLoaded a x (Err f) a) × (q ≡ p)

-- what came of the end of a sub-plan at a partition
abbrev pub Finishes : ℕ → PeerValue → ℕ → Result (ReportKind PlanPair) FinishFault → PeerValue → Type 0
Finishes at p s (Ok report) q = (a : PartValue) × (b : PartValue) × (p.role ≡ PartRole a) × IsFinished a s (Ok report) b × IsPart b × (q ≡ reported at p (PartRole b) report)
Finishes at p s (Err f) q = (a : PartValue) × (p.role ≡ PartRole a) × ((f ≡ NoRoomToFinish) ⊎ IsFinished a s (Err f) a) × (q ≡ p)

-- the leader opened the sub-plan, or why it did not
abbrev pub Opens : PeerValue → Result ℕ LeaderFault → PeerValue → Type 0
Opens p (Ok s) q =
    (a : LeaderValue) × (b : LeaderValue) × (c : Change) × (p.role ≡ LeaderRole a) × (a.course ≡ Some c) × IsOpened a (Ok (open_report c s)) b × IsLeader b
    × (q ≡ reported 0 p (LeaderRole b) (open_report c s))
Opens p (Err f) q = (a : LeaderValue) × (p.role ≡ LeaderRole a) × ((f ≡ NoRoomToLead) ⊎ IsOpened a (Err f) a) × (q ≡ p)

-- the leader began the course between the plans, and made this report, or why it did not
abbrev pub Begins : PeerValue → List PlanRange → List PlanRange → ReportKind PlanPair → Result Change LeaderFault → PeerValue → Type 0
Begins p old new report (Ok c) q =
    (a : LeaderValue) × (b : LeaderValue) × (p.role ≡ LeaderRole a) × IsBegunFrom a old new (Ok c) b × IsLeader b × (q ≡ reported 0 p (LeaderRole b) report)
Begins p old new report (Err f) q = (a : LeaderValue) × (p.role ≡ LeaderRole a) × ((f ≡ NoRoomToLead) ⊎ IsBegunFrom a old new (Err f) a) × (q ≡ p)
