-- What a feed hears in a stream of frames (this project).
use Rattle.std.specs.Prelude.{◌≡◌, ◌≢◌, ◌⊎◌, ℕ, List, [], ◌∷◌, ◌++◌, Option, Some, None, Bool, true, false, Err}
use Rattle.std.specs.Option.{IsSome, is_some}
use Rattle.std.specs.List.{AllByRecursion}
use Rattle.squall_wire.specs.declared.fault.WireFault.{WireFault}
use Rattle.squall_wire.specs.declared.fault.WireFault.TheVariants.{Short, NoMemory}
use Rattle.squall_wire.specs.declared.message.Message.{Message}
use Rattle.squall_wire.specs.Messages.{spell_all, IsMessage}
use Rattle.squall_wire.specs.Reading.{message_at}

-- the fault of what is left of a stream: none if the bytes are too short for one
abbrev pub EndsIn : Option WireFault → List ℕ → Type 0
EndsIn None rest = message_at rest ≡ Err Short
EndsIn (Some e) rest = (e ≢ Short) × (e ≢ NoMemory) × (message_at rest ≡ Err e)

-- the stream begins with the frames of the messages, and what is left begins with no frame: it is too short, or has
-- the fault
pub record IsHeard (stream : List ℕ) (messages : List Message) (fault : Option WireFault) (rest : List ℕ) : Type 0 where
  pub each : AllByRecursion IsMessage messages
  pub frames : stream ≡ spell_all messages ++ rest
  pub ends : EndsIn fault rest

-- a feed: the bytes of an unfinished frame, and whether a fault has ended it
pub record FeedValue : Type 0 where
  pub waiting : List ℕ
  pub failed : Bool

abbrev pub feed_with : List ℕ → Bool → FeedValue
feed_with waiting failed = record { waiting = waiting; failed = failed }

-- a feed that has taken nothing
abbrev pub new_feed : FeedValue
new_feed = feed_with [] false

-- no more bytes wait: one less than those of the longest frame
abbrev pub waiting_limit : ℕ
waiting_limit = 1048583

-- what waits is too short for a frame and shows no fault; after a fault nothing waits
pub record IsFeed (f : FeedValue) : Type 0 where
  pub short : f.failed ≡ false → message_at f.waiting ≡ Err Short
  pub ended : f.failed ≡ true → f.waiting ≡ []

-- the feed after a fault, or while the rest of a stream waits
abbrev pub feed_after : Option WireFault → List ℕ → FeedValue
feed_after None rest = feed_with rest false
feed_after (Some e) rest = feed_with [] true

-- the feed takes the piece: after the bytes that waited it begins with the frames of the messages, and the rest waits or has the fault
pub record HearsOn (old : FeedValue) (piece : List ℕ) (messages : List Message) (fault : Option WireFault) (new : FeedValue) : Type 0 where
  pub unended : old.failed ≡ false
  pub rest : List ℕ
  pub heard : IsHeard (old.waiting ++ piece) messages fault rest
  pub after : new ≡ feed_after fault rest

-- the same of the bytes alone: of those that waited, and of those that wait then
abbrev pub WaitsOn : List ℕ → List ℕ → List Message → Option WireFault → List ℕ → Type 0
WaitsOn waiting piece messages fault left = HearsOn (feed_with waiting false) piece messages fault (feed_with left (is_some fault))

-- the first piece has a fault, which ends the stream: what comes after it is not heard
pub record EndsAt (old : FeedValue) (piece : List ℕ) (messages : List Message) (fault : Option WireFault) (new : FeedValue) : Type 0 where
  pub faulty : IsSome fault
  pub heard : HearsOn old piece messages fault new

-- the first piece has no fault, and the others are heard after it
pub record GoesOn (old : FeedValue) (piece : List ℕ) (messages : List Message) (Others : List Message → FeedValue → Type 0) : Type 0 where
  pub first : List Message
  pub others : List Message
  pub middle : FeedValue
  pub all : messages ≡ first ++ others
  pub heard : HearsOn old piece first None middle
  pub after : Others others middle

-- the feed takes piece after piece, up to the first that has a fault: the messages of them all, and the fault
abbrev pub HearsAll : FeedValue → List (List ℕ) → List Message → Option WireFault → FeedValue → Type 0
HearsAll old [] messages fault new = (messages ≡ []) × (fault ≡ None) × (new ≡ old)
HearsAll old (piece ∷ pieces) messages fault new = EndsAt old piece messages fault new ⊎ GoesOn old piece messages (λ others middle. HearsAll middle pieces others fault new)
