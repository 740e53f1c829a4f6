-- What a leader behind a handle hears in the pieces of a stream of frames (this project).
use Rattle.std.specs.Prelude.{◌≡◌, ℕ, true, false, List, Option, Result, Ok, Err}
use Rattle.squall_board.specs.Boards.{board_join}
use Rattle.squall_wire.specs.declared.fault.WireFault.{WireFault}
use Rattle.squall_wire.specs.declared.message.Message.{Message}
use Rattle.squall_wire.specs.declared.feed.FeedFault.{FeedFault}
use Rattle.squall_wire.specs.declared.feed.FeedFault.TheVariants.{Failed, NoMemory}
use Rattle.squall_wire.specs.Hearing.{FeedValue, HearsOn}
use Rattle.squall_delta.specs.Pieces.{joined_boards}
use Rattle.squall_leader.specs.Leaders.{LeaderValue}
use Rattle.squall_c_frames.specs.Joined.{deltas_of, last_digest}
use Rattle.squall_c_leaders.specs.Nodes.{NodeValue}

-- the leader that has heard the messages: its board is the join of the old one and those that they bring
abbrev pub heard_leader : LeaderValue → List Message → LeaderValue
heard_leader l ms = record l { board = board_join l.board (joined_boards (deltas_of ms)) }

-- the node that has heard the messages: its leader has, it keeps the last digest, and the feed waits for what follows them
abbrev pub fed_node : NodeValue → List Message → FeedValue → NodeValue
fed_node n ms feed = record n { leader = heard_leader n.leader ms; feed = feed; heard = last_digest n.heard ms }

-- the messages whose frames end in the piece are heard, up to the first fault
pub record HearsPiece (n : NodeValue) (piece : List ℕ) (fault : Option WireFault) (m : NodeValue) : Type 0 where
  pub messages : List Message
  pub feed : FeedValue
  pub heard : HearsOn n.feed piece messages fault feed
  pub after : m ≡ fed_node n messages feed

-- a node after a piece of a stream of frames was fed to it; nothing is heard after a fault, or if an allocation failed
abbrev pub Feeds : List ℕ → NodeValue → Result (Option WireFault) FeedFault → NodeValue → Type 0
Feeds piece n (Ok fault) m = HearsPiece n piece fault m × (n.feed.failed ≡ false)
Feeds piece n (Err Failed) m = (n.feed.failed ≡ true) × (m ≡ n)
Feeds piece n (Err NoMemory) m = (n.feed.failed ≡ false) × (m ≡ n)
