-- Nodes that have taken the messages of a piece.
use Rattle.std.specs.Prelude.{◌≡◌, ◌==◌, false, List, [], ◌∷◌, length, Option}
use Rattle.std.proofs.Common.{ap}
use Rattle.squall_wire.specs.DigestValue.{DigestValue}
use Rattle.squall_wire.specs.declared.message.Message.{Message}
use Rattle.squall_wire.specs.Hearing.{FeedValue}
use Rattle.squall_delta.specs.Pieces.{joined_boards}
use Rattle.squall_part.specs.Parts.{PartValue}
use Rattle.squall_replay.specs.Calls.{Absorbs}
use Rattle.squall_c_frames.specs.Joined.{deltas_of, last_digest}
use Rattle.squall_c_parts.specs.Nodes.{NodeValue, with_feed}
use Rattle.squall_c_parts.specs.PartFeeding.{AbsorbsAll, TakesAll}

-- without a message only the feed changes
pub takes_none : (n : NodeValue) (ms : List Message) (new feed : FeedValue) → ms ≡ [] → new ≡ feed → TakesAll n ms feed (with_feed n new)
takes_none n [] new feed none is = ap (λ (f : FeedValue). with_feed n f) is
takes_none n (x ∷ ms) new feed none is = absurd cc

-- each part of the node is as the messages say
pub absorbs_all : (n : NodeValue) (ms : List Message) (part : PartValue) (new feed : FeedValue) (heard : Option DigestValue) → Absorbs n.part (joined_boards (deltas_of ms)) part → new ≡ feed → heard ≡ last_digest n.heard ms
    → AbsorbsAll n ms feed (record n { part = part; feed = new; heard = heard })
absorbs_all n ms part new feed heard absorbs is last = record {
  part = part;
  absorbs = absorbs;
  node = λ i. record n { part = part; feed = is i; heard = last i };
}

-- with a message all are taken
pub takes_some : (n m : NodeValue) (ms : List Message) (feed : FeedValue) → (length ms == 0) ≡ false → AbsorbsAll n ms feed m → TakesAll n ms feed m
takes_some n m [] feed some all = absurd cc
takes_some n m (x ∷ ms) feed some all = all
