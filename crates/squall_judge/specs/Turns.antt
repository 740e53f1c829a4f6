-- What comes of one entry. Only contracts of private functions use these definitions.
use Rattle.std.specs.Prelude.{◌≡◌, ◌≢◌, List, Option, None, Some}
use Rattle.squall_report.specs.declared.report.ReportKind.{ReportKind}
use Rattle.squall_report.specs.declared.report.ReportKind.TheVariants.{Loaded as LoadedReport, Done as DoneReport, Opened as OpenedReport, Issued as IssuedReport}
use Rattle.squall_report.specs.Issues.{PlanPair}
use Rattle.squall_protocol.specs.declared.event.Node.{Node}
use Rattle.squall_protocol.specs.declared.event.Node.TheVariants.{Leader, Part, Router}
use Rattle.squall_protocol.specs.declared.event.Event.{Event}
use Rattle.squall_protocol.specs.declared.event.Event.TheVariants.{OpenNext, Begin, BeginFrom, Close, Give, GiveAt, Load, Finish, Send, SendPart, Deliver, Route, Serve}
use Rattle.squall_protocol.specs.declared.answer.Answer.{Answer}
use Rattle.squall_protocol.specs.Chunks.{ChunkValue}
use Rattle.squall_protocol.specs.Worlds.{WorldValue}
use Rattle.squall_protocol.specs.Steps.{Step}
use Rattle.squall_audit.specs.Lines.{Line, IsNotYet}
use Rattle.squall_audit.specs.Logs.{Comes, CanCome, AreOfOneEvent}
use Rattle.squall_judge.specs.declared.turn.Turn.{Turn}
use Rattle.squall_judge.specs.declared.turn.Turn.TheVariants.{Taken, Waits, Never}

-- the node of an event that is written as it is; none if the event is of a chunk or a message that comes or is sent
abbrev pub place_of : Event → Option Node
place_of OpenNext = Some Leader
place_of (Begin plan) = Some Leader
place_of (BeginFrom old new) = Some Leader
place_of (Close p) = Some (Part p)
place_of (Give p most) = Some (Part p)
place_of (GiveAt p k) = Some (Part p)
place_of (Load i) = None
place_of (Finish p s) = Some (Part p)
place_of (Send node) = None
place_of (SendPart node said) = None
place_of (Deliver i node) = None
place_of (Route r k) = Some (Router r)
place_of (Serve p k after) = Some (Part p)

-- the node from which a report comes
abbrev pub origin_of : ReportKind PlanPair → Node
origin_of (LoadedReport number sub part span) = Part part
origin_of (DoneReport number sub part) = Part part
origin_of (OpenedReport number sub) = Leader
origin_of (IssuedReport number issue) = Leader

-- another line of the same event comes there
pub record IsOther (w : WorldValue) (m : Node) (l : Line) : Type 0 where
  pub line : Line
  pub one : AreOfOneEvent line l
  pub other : line ≢ l
  pub comes : CanCome w m line

-- What comes of a line at its node. It came, and these are the world and its chunks after it; it cannot come now, and the world stays as it
-- is; or the node answers otherwise.
abbrev pub IsTurn : WorldValue → Node → Line → Turn → WorldValue → List ChunkValue → Type 0
IsTurn w m l Taken v chunks = Comes w m l v × (chunks ≡ v.chunks)
IsTurn w m l Waits v chunks = (v ≡ w) × (CanCome w m l → ⊥) × (chunks ≡ v.chunks)
IsTurn w m l Never v chunks = IsOther w m l

-- the event happened at the node, and was so answered
pub record IsDone (w : WorldValue) (m : Node) (e : Event) (a : Answer) (v : WorldValue) : Type 0 where
  pub place : place_of e ≡ Some m
  pub step : Step w e a v
  pub there : IsNotYet e a → ⊥

-- what came of an event at a node: an answer, or nothing, since it cannot happen there now, and the world stays as it is
abbrev pub IsMade : WorldValue → Node → Event → Option Answer → WorldValue → Type 0
IsMade w m e (Some a) v = IsDone w m e a v
IsMade w m e None v = (v ≡ w) × ((a : Answer) (u : WorldValue) → IsDone w m e a u → ⊥)
