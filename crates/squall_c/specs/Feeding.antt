-- What a router of the C library hears in the bytes of frames (this project).
use Rattle.std.specs.Prelude.{◌≡◌, ℕ, true, false, List, length, Option, None, Some, Result, Ok, Err}
use Rattle.squall_wire.specs.declared.fault.WireFault.{WireFault}
use Rattle.squall_wire.specs.declared.message.Message.{Message}
use Rattle.squall_wire.specs.Hearing.{FeedValue, HearsOn}
use Rattle.squall_router.specs.Routers.{router_with}
use Rattle.squall_c_frames.specs.Joined.{last_digest}
use Rattle.squall_wire.specs.declared.feed.FeedFault.{FeedFault}
use Rattle.squall_wire.specs.declared.feed.FeedFault.TheVariants.{Failed as FeedFailed, NoMemory as NoMemoryToFeed}
use Rattle.squall_router.specs.declared.fault.AbsorbFault.{AbsorbFault}
use Rattle.squall_router.specs.declared.fault.AbsorbFault.TheVariants.{Full as FullBoard, NoMemory as NoMemoryToAbsorb}
use Rattle.squall_c.specs.declared.feeding.HearFault.{HearFault}
use Rattle.squall_c.specs.declared.feeding.HearFault.TheVariants.{Failed, Full, NoMemory}
use Rattle.squall_c.specs.declared.router.RouterSlot.{RouterSlot}
use Rattle.squall_c.specs.declared.router.Station.{Station}
use Rattle.squall_c.specs.Status.{no_memory, failed, full}
use Rattle.squall_c_frames.specs.FrameStatus.{heard_status}
use Rattle.squall_c.specs.Opening.{AnswersIn}
use Rattle.squall_c.specs.Limits.{joined_with, IsAdmitted, IsRefused, taken_after}

-- the station whose router has absorbed all that the messages tell
abbrev pub joined_station : Station → List Message → Station
joined_station s ms = record s { router = router_with s.router.first (joined_with s ms) }

-- the station that has heard the messages: its board is the join of the old one and those that they bring, and it keeps the last digest
abbrev pub heard_station : Station → List Message → FeedValue → Station
heard_station s ms feed = record s {
  router = router_with s.router.first (joined_with s ms);
  feed = feed;
  heard = last_digest s.heard ms;
  taken = taken_after s ms;
}

-- ---- faults

abbrev pub fault_of_feed : FeedFault → HearFault
fault_of_feed FeedFailed = Failed
fault_of_feed NoMemoryToFeed = NoMemory

abbrev pub fault_of_absorb : AbsorbFault → HearFault
fault_of_absorb FullBoard = Full
fault_of_absorb NoMemoryToAbsorb = NoMemory

-- ---- pieces

-- the messages whose frames end in the piece are heard, up to the first fault, and lie within the limit
pub record HearsPiece (old : Station) (piece : List ℕ) (fault : Option WireFault) (new : Station) : Type 0 where
  pub messages : List Message
  pub feed : FeedValue
  pub heard : HearsOn old.feed piece messages fault feed
  pub admitted : IsAdmitted old messages
  pub after : new ≡ heard_station old messages feed

-- they are beyond the limit
pub record RefusesPiece (old : Station) (piece : List ℕ) : Type 0 where
  pub messages : List Message
  pub fault : Option WireFault
  pub feed : FeedValue
  pub heard : HearsOn old.feed piece messages fault feed
  pub refused : IsRefused old messages

-- they are heard; or nothing is, if a fault ended the stream before, if they are beyond the limit, or if there was not the memory for it
abbrev pub HearsInStation : List ℕ → Station → Result (Option WireFault) HearFault → Station → Type 0
HearsInStation piece old (Ok fault) new = HearsPiece old piece fault new × (old.feed.failed ≡ false)
HearsInStation piece old (Err Failed) new = (old.feed.failed ≡ true) × (new ≡ old)
HearsInStation piece old (Err Full) new = RefusesPiece old piece × (old.feed.failed ≡ false) × (new ≡ old)
HearsInStation piece old (Err NoMemory) new = (old.feed.failed ≡ false) × (new ≡ old)

-- the number of how it ended that a piece came
abbrev pub feed_number : Result (Option WireFault) HearFault → ℕ
feed_number (Ok fault) = heard_status fault
feed_number (Err Failed) = failed
feed_number (Err Full) = full
feed_number (Err NoMemory) = no_memory

-- a slot after a piece of a stream of frames was fed to it: the status is the number of how that ended
abbrev pub Feeds : List ℕ → RouterSlot → RouterSlot → ℕ → Type 0
Feeds piece old new status = AnswersIn feed_number (HearsInStation piece) old old.station new status

-- how many bytes wait for the rest of their frame, 0 if there is no router
abbrev pub waiting_bytes : Option Station → ℕ
waiting_bytes None = 0
waiting_bytes (Some s) = length s.feed.waiting
