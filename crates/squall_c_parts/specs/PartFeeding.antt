-- What a node of the C library hears in the pieces of a stream of frames (this project).
use Rattle.std.specs.Prelude.{◌≡◌, ℕ, true, false, List, [], ◌∷◌, Option, Result, Ok, Err}
use Rattle.squall_wire.specs.declared.fault.WireFault.{WireFault}
use Rattle.squall_wire.specs.declared.message.Message.{Message}
use Rattle.squall_wire.specs.declared.feed.FeedFault.{FeedFault}
use Rattle.squall_wire.specs.declared.feed.FeedFault.TheVariants.{Failed, NoMemory}
use Rattle.squall_wire.specs.Hearing.{FeedValue, HearsOn}
use Rattle.squall_delta.specs.Pieces.{joined_boards}
use Rattle.squall_part.specs.Parts.{PartValue}
use Rattle.squall_replay.specs.Calls.{Absorbs}
use Rattle.squall_c_frames.specs.Joined.{deltas_of, last_digest}
use Rattle.squall_c_frames.specs.FrameStatus.{feed_status}
use Rattle.squall_c_parts.specs.Nodes.{NodeValue, with_feed}

-- the node with another partition and another feed, which keeps the last digest among the messages
abbrev pub heard_with : NodeValue → List Message → PartValue → FeedValue → NodeValue
heard_with n ms part feed = record n { part = part; feed = feed; heard = last_digest n.heard ms }

-- the node's partition has absorbed the join of all boards that the messages bring, and the last digest is kept
pub record AbsorbsAll (old : NodeValue) (messages : List Message) (feed : FeedValue) (new : NodeValue) : Type 0 where
  pub part : PartValue
  pub absorbs : Absorbs old.part (joined_boards (deltas_of messages)) part
  pub node : new ≡ heard_with old messages part feed

-- the messages are taken, all of them; if there is none, only the feed changes
abbrev pub TakesAll : NodeValue → List Message → FeedValue → NodeValue → Type 0
TakesAll old [] feed new = new ≡ with_feed old feed
TakesAll old (m ∷ ms) feed new = AbsorbsAll old (m ∷ ms) feed new

-- the messages whose frames end in the piece are taken, up to the first fault
pub record HearsPiece (old : NodeValue) (piece : List ℕ) (fault : Option WireFault) (new : NodeValue) : Type 0 where
  pub messages : List Message
  pub feed : FeedValue
  pub heard : HearsOn old.feed piece messages fault feed
  pub takes : TakesAll old messages feed new

-- or nothing is: a fault ended the stream before, or an allocation failed
abbrev pub HearsInNode : NodeValue → List ℕ → Result (Option WireFault) FeedFault → NodeValue → Type 0
HearsInNode old piece (Ok fault) new = HearsPiece old piece fault new × (old.feed.failed ≡ false)
HearsInNode old piece (Err Failed) new = (old.feed.failed ≡ true) × (new ≡ old)
HearsInNode old piece (Err NoMemory) new = (old.feed.failed ≡ false) × (new ≡ old)

-- a node after a piece of a stream of frames was fed to it: the status is the number of how that ended
pub record Feeds (piece : List ℕ) (old new : NodeValue) (status : ℕ) : Type 0 where
  pub answer : Result (Option WireFault) FeedFault
  pub hears : HearsInNode old piece answer new
  pub told : status ≡ feed_status answer
