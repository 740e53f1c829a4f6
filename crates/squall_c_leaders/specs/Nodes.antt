-- What a leader behind a handle is, what it hears and which frames wait (this project).
use Rattle.std.specs.Prelude.{◌≡◌, ℕ, ◌-◌, List, [], Option, None, Some, Result, Ok, Err}
use Rattle.squall_plan.specs.declared.range.PlanRange.{PlanRange}
use Rattle.squall_course.specs.Change.{Change}
use Rattle.squall_report.specs.declared.report.ReportKind.{ReportKind}
use Rattle.squall_report.specs.declared.report.ReportKind.TheVariants.{Opened}
use Rattle.squall_report.specs.Issues.{PlanPair}
use Rattle.squall_board.specs.Boards.{board_join}
use Rattle.squall_wire.specs.declared.fault.WireFault.{WireFault}
use Rattle.squall_wire.specs.declared.message.Message.{Message}
use Rattle.squall_wire.specs.declared.message.Message.TheVariants.{Delta, Digest}
use Rattle.squall_wire.specs.DigestValue.{DigestValue}
use Rattle.squall_wire.specs.Hearing.{FeedValue, new_feed}
use Rattle.squall_wire.specs.Messages.{IsMessage, body_of, spell}
use Rattle.squall_leader.specs.declared.fault.LeaderFault.{LeaderFault}
use Rattle.squall_leader.specs.Leaders.{LeaderValue, new_leader, after_begin, IsBegun, IsBegunFrom, IsOpened}
use Rattle.squall_c_frames.specs.Queues.{frames_after}
use Rattle.squall_c_frames.specs.declared.fault.FrameFault.{FrameFault}
use Rattle.squall_c_frames.specs.declared.fault.FrameFault.TheVariants.{TooLong, NoMemory}
use Rattle.squall_c_frames.specs.BoardFrames.{ArePieceFrames, AreRepairFrames, AreDigestFrames, HasLongItem, HasLongRepair, HasLongDigest}
use Rattle.squall_c_frames.specs.WholeFrames.{whole_at, IsFaultOf}
use Rattle.squall_c_leaders.specs.declared.fault.RepairFault.{RepairFault}
use Rattle.squall_c_leaders.specs.declared.fault.RepairFault.TheVariants.{NoDigest, TooLong as TooLongForRepair, NoMemory as NoMemoryForRepair}

-- a leader, the feed that hears its stream of frames, the digest that it heard last and the frames that wait to be fetched
pub record NodeValue : Type 0 where
  pub leader : LeaderValue
  pub feed : FeedValue
  pub heard : Option DigestValue
  pub frames : List (List ℕ)

-- ---- opening

-- the node of a leader that has heard no digest, and no frame waits
abbrev pub new_node : LeaderValue → NodeValue
new_node l = record { leader = l; feed = new_feed; heard = None; frames = [] }

-- the leader in the midst of the course, as it is right after it began it as its first one
abbrev pub begun_leader : Change → LeaderValue
begun_leader c = after_begin (new_leader c.old (c.number - 1)) c

-- ---- leading

-- the node with another leader
abbrev pub with_leader : NodeValue → LeaderValue → NodeValue
with_leader n l = record n { leader = l }

-- a course was begun so, or the fault says why it was not; nothing but the leader has changed
abbrev pub BeginsSo : (LeaderValue → Result Change LeaderFault → LeaderValue → Type 0) → NodeValue → Result (Unit {0}) LeaderFault → NodeValue → Type 0
BeginsSo IsSo n (Ok done) m = (c : Change) × IsSo n.leader (Ok c) m.leader × (m ≡ with_leader n m.leader)
BeginsSo IsSo n (Err fault) m = IsSo n.leader (Err fault) m.leader × (m ≡ with_leader n m.leader)

-- a course to the plan was begun so
abbrev pub Begins : List PlanRange → NodeValue → Result (Unit {0}) LeaderFault → NodeValue → Type 0
Begins plan n answer m = BeginsSo (λ l begun k. IsBegun l plan begun k) n answer m

-- a course from one plan to another was begun so
abbrev pub BeginsFrom : List PlanRange → List PlanRange → NodeValue → Result (Unit {0}) LeaderFault → NodeValue → Type 0
BeginsFrom old new n answer m = BeginsSo (λ l begun k. IsBegunFrom l old new begun k) n answer m

-- the number is that of the sub-plan that the report says opened
abbrev pub OpensAs : ReportKind PlanPair → ℕ → Type 0
OpensAs report sub = (number opened : ℕ) → report ≡ Opened number opened → sub ≡ opened

-- the next sub-plan was opened, which is the one that the leader counted, or the fault says why it was not; nothing but the leader has changed
abbrev pub Opens : NodeValue → Result ℕ LeaderFault → NodeValue → Type 0
Opens n (Ok sub) m = (report : ReportKind PlanPair) × IsOpened n.leader (Ok report) m.leader × (sub ≡ n.leader.opened) × (m ≡ with_leader n m.leader)
Opens n (Err fault) m = IsOpened n.leader (Err fault) m.leader × (m ≡ with_leader n m.leader)

-- ---- hearing

-- the node that has heard the message too: a delta is joined to the leader's board, and a digest is kept
abbrev pub heard_node : NodeValue → Message → NodeValue
heard_node n (Delta b) = with_leader n (record n.leader { board = board_join n.leader.board b })
heard_node n (Digest d) = record n { heard = Some d }

-- the message of the frame was heard, or why not, and then nothing changed
abbrev pub HearsFrame : List ℕ → NodeValue → Result (Unit {0}) WireFault → NodeValue → Type 0
HearsFrame frame n (Ok done) m =
    (message : Message) × IsMessage message × (frame ≡ spell message) × (whole_at frame ≡ Ok (body_of message)) × (m ≡ heard_node n message)
HearsFrame frame n (Err fault) m = IsFaultOf frame fault × (m ≡ n)

-- ---- frames that wait

-- the node with other frames that wait
abbrev pub with_frames : NodeValue → List (List ℕ) → NodeValue
with_frames n frames = record n { frames = frames }

-- such frames wait, in place of those before
abbrev pub KeepsFrames : (List (List ℕ) → Type 0) → NodeValue → NodeValue → Type 0
KeepsFrames AreFrames n m = AreFrames m.frames × (m ≡ with_frames n m.frames)

-- the same; or one would be too long, or an allocation failed, and nothing changed
abbrev pub Keeps : (List (List ℕ) → Type 0) → Type 0 → NodeValue → Result (Unit {0}) FrameFault → NodeValue → Type 0
Keeps AreFrames IsLong n (Ok done) m = KeepsFrames AreFrames n m
Keeps AreFrames IsLong n (Err TooLong) m = IsLong × (m ≡ n)
Keeps AreFrames IsLong n (Err NoMemory) m = m ≡ n

-- the frames of the board's pieces, each of at most so many bytes
abbrev pub KeepsBoard : ℕ → NodeValue → Result (Unit {0}) FrameFault → NodeValue → Type 0
KeepsBoard limit n answer m = Keeps (ArePieceFrames limit n.leader.board) (HasLongItem limit n.leader.board) n answer m

-- the frame of the board's digest, likewise
abbrev pub KeepsDigest : ℕ → NodeValue → Result (Unit {0}) FrameFault → NodeValue → Type 0
KeepsDigest limit n answer m = Keeps (AreDigestFrames limit n.leader.board) (HasLongDigest limit n.leader.board) n answer m

-- why a repair is not made, if a digest was heard
abbrev pub repair_fault : FrameFault → RepairFault
repair_fault TooLong = TooLongForRepair
repair_fault NoMemory = NoMemoryForRepair

-- the frames of a repair by the digest heard last wait, likewise; or there is no such digest, and nothing changed
abbrev pub KeepsRepair : ℕ → NodeValue → Result (Unit {0}) RepairFault → NodeValue → Type 0
KeepsRepair limit n (Ok done) m = (d : DigestValue) × (n.heard ≡ Some d) × KeepsFrames (AreRepairFrames limit n.leader.board d) n m
KeepsRepair limit n (Err NoDigest) m = (n.heard ≡ None) × (m ≡ n)
KeepsRepair limit n (Err TooLongForRepair) m = (d : DigestValue) × (n.heard ≡ Some d) × HasLongRepair limit n.leader.board d × (m ≡ n)
KeepsRepair limit n (Err NoMemoryForRepair) m = ((d : DigestValue) × (n.heard ≡ Some d)) × (m ≡ n)

-- the node after the first frame that waits was to be put into the room
abbrev pub node_after : NodeValue → List ℕ → NodeValue
node_after n room = with_frames n (frames_after n.frames room)
