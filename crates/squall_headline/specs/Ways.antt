-- The ways by which reports come to a board, each a call, and what is promised of them (this project; that to join boards loses
-- nothing and adds nothing, in whatever order, is the least upper bound of Shapiro et al. 2011).
use Rattle.std.specs.Prelude.{◌≡◌, ℕ, Bool, true, false, List, [], ◌∷◌, ◌++◌, map, Option}
use Rattle.std.specs.List.{concat, AllByRecursion}
use Rattle.squall_plan.specs.Ranges.{owner_of}
use Rattle.squall_course.specs.Change.{Change}
use Rattle.squall_report.specs.declared.report.ReportKind.{ReportKind}
use Rattle.squall_report.specs.Issues.{PlanPair}
use Rattle.squall_report.specs.Facts.{Fact}
use Rattle.squall_report.specs.Told.{TellsBoth, SameTold, told_by, told_by_report}
use Rattle.squall_board.specs.Boards.{BoardValue, HasTaken, empty_board, told}
use Rattle.squall_board.specs.Route.{has_come}
use Rattle.squall_wire.specs.declared.fault.WireFault.{WireFault}
use Rattle.squall_wire.specs.declared.message.Message.{Message}
use Rattle.squall_wire.specs.declared.message.Message.TheVariants.{Delta, Digest}
use Rattle.squall_wire.specs.DigestValue.{DigestValue}
use Rattle.squall_wire.specs.Messages.{IsMessage, spell_all}
use Rattle.squall_wire.specs.Hearing.{FeedValue, IsFeed, IsHeard, HearsAll}

abbrev pub Reports : Type 0
Reports = List (ReportKind PlanPair)

-- a board, and reports that it has taken
pub record Packed : Type 0 where
  pub board : BoardValue
  pub reports : Reports

abbrev pub packed : BoardValue → Reports → Packed
packed board reports = record { board = board; reports = reports }

-- what a sender puts into a stream: a board that has taken reports, or a digest
pub data Sent : Type 0 where
  SentBoard : Packed → Sent
  SentDigest : DigestValue → Sent

-- by which call, and what came: one report, a list of them, a board that has taken reports, or what a sender sent, in frames, as pieces
-- of its stream
pub data Way : Type 0 where
  ByTake : ReportKind PlanPair → Way
  ByTakeAll : Reports → Way
  ByMerge : Packed → Way
  ByFrames : List Sent → List (List ℕ) → Way

-- the reports that come so: a digest brings none
abbrev pub reports_sent : List Sent → Reports
reports_sent [] = []
reports_sent (SentBoard p ∷ ss) = p.reports ++ reports_sent ss
reports_sent (SentDigest d ∷ ss) = reports_sent ss

abbrev pub reports_by : Way → Reports
reports_by (ByTake report) = report ∷ []
reports_by (ByTakeAll reports) = reports
reports_by (ByMerge packed) = packed.reports
reports_by (ByFrames sent pieces) = reports_sent sent

abbrev pub reports_of : List Way → Reports
reports_of [] = []
reports_of (w ∷ ws) = reports_by w ++ reports_of ws

-- the message of what was sent
abbrev pub message_of : Sent → Message
message_of (SentBoard p) = Delta p.board
message_of (SentDigest d) = Digest d

abbrev pub messages_of : List Sent → List Message
messages_of ss = map message_of ss

-- each board that was sent has taken its reports
abbrev pub HasPacked : Sent → Type 0
HasPacked (SentBoard p) = HasTaken p.board p.reports
HasPacked (SentDigest d) = Unit {0}

abbrev pub ArePacked : List Sent → Type 0
ArePacked ss = AllByRecursion HasPacked ss

-- the deltas among the messages are merged, or absorbed, one after the other
abbrev pub TakesIn : List Message → BoardValue → BoardValue → Type 0
TakesIn [] before after = before ≡ after
TakesIn (Delta delta ∷ ms) before after = (middle : BoardValue) × TellsBoth (told middle) (told before) (told delta) × TakesIn ms middle after
TakesIn (Digest digest ∷ ms) before after = TakesIn ms before after

-- A feed took pieces, one after the other, and the deltas that it gave were taken in. The feed may be in any state: the bytes
-- that waited in it, and then those of the pieces, begin with the frames of what was sent. The rest begins no frame, and waits or
-- is faulty.
pub record IsStreamed (sent : List Sent) (pieces : List (List ℕ)) (before after : BoardValue) : Type 0 where
  pub packed : ArePacked sent
  pub old : FeedValue
  pub is_feed : IsFeed old
  pub unended : old.failed ≡ false
  pub ends : Option WireFault
  pub rest : List ℕ
  pub stream : IsHeard (old.waiting ++ concat pieces) (messages_of sent) ends rest
  pub messages : List Message
  pub fault : Option WireFault
  pub new : FeedValue
  pub heard : HearsAll old pieces messages fault new
  pub taken : TakesIn messages before after

-- the call leads from one board to another: what `Board::take`, `Board::take_all`, `Board::merge`, `Router::take` and `Router::absorb`
-- ensure, and what `Feed::push` and they ensure together
abbrev pub Leads : Way → BoardValue → BoardValue → Type 0
Leads (ByTake report) before after = TellsBoth (told after) (told before) (told_by_report report)
Leads (ByTakeAll reports) before after = TellsBoth (told after) (told before) (told_by reports)
Leads (ByMerge packed) before after = HasTaken packed.board packed.reports × TellsBoth (told after) (told before) (told packed.board)
Leads (ByFrames sent pieces) before after = IsStreamed sent pieces before after

-- the calls, one after the other, lead from one board to another
abbrev pub LeadOn : List Way → BoardValue → BoardValue → Type 0
LeadOn [] before after = before ≡ after
LeadOn (w ∷ ws) before after = (middle : BoardValue) × Leads w before middle × LeadOn ws middle after

-- they lead from the empty board to that one
abbrev pub LeadTo : List Way → BoardValue → Type 0
LeadTo ws b = LeadOn ws empty_board b

-- what comes by both is the same: the reports of the one list tell what those of the other tell
abbrev pub BringTheSame : List Way → List Way → Type 0
BringTheSame ws vs = SameTold (told_by (reports_of ws)) (told_by (reports_of vs))

-- ---- what is on its way to a feed

-- the messages are on their way to the feed: what waits in it, and what is still to come, are their frames, one after the other
pub record AreComing (sent : List Sent) (feed : FeedValue) (coming : List ℕ) : Type 0 where
  pub packed : ArePacked sent
  pub each : AllByRecursion IsMessage (messages_of sent)
  pub is_feed : IsFeed feed
  pub unended : feed.failed ≡ false
  pub stream : feed.waiting ++ coming ≡ spell_all (messages_of sent)

-- the piece brings the first of the messages that were on their way, those whose frames it ends, and the others stay on their way
pub record Brings (sent : List Sent) (piece coming : List ℕ) (before after : BoardValue) (new : FeedValue) : Type 0 where
  pub brought : List Sent
  pub others : List Sent
  pub all : sent ≡ brought ++ others
  pub leads : Leads (ByFrames brought (piece ∷ [])) before after
  pub on : AreComing others new coming

-- ---- where a key is sent

-- the key goes to its new partition if its load, or that partition's completion, is told for the key's own sub-plan of the
-- course's number. Otherwise it goes to its old one
pub record IsSent (c : Change) (says : Fact → Bool) (k part : ℕ) : Type 0 where
  pub come : has_come c says k ≡ true → part ≡ owner_of c.new k
  pub not_come : has_come c says k ≡ false → part ≡ owner_of c.old k
