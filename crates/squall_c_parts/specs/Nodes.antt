-- Nodes of one partition of the C library (this project).
use Rattle.std.specs.Prelude.{◌≡◌, ◌≢◌, ℕ, List, [], Option, None, Some}
use Rattle.std.specs.Option.{option_map}
use Rattle.squall_span.specs.Spans.{Interval}
use Rattle.squall_course.specs.Change.{Change}
use Rattle.squall_wire.specs.DigestValue.{DigestValue}
use Rattle.squall_wire.specs.Hearing.{FeedValue, new_feed}
use Rattle.squall_part.specs.Parts.{PartValue, new_part, known_to, given_by, loaded_by}
use Rattle.squall_c_parts.specs.PartStatus.{no_memory}

-- a partition, the feed that hears its stream of frames, the digest that it heard last, and the frames that wait to be fetched
pub record NodeValue : Type 0 where
  pub part : PartValue
  pub feed : FeedValue
  pub heard : Option DigestValue
  pub frames : List (List ℕ)

-- the node with another partition, another feed, another digest, or other frames
abbrev pub with_part : NodeValue → PartValue → NodeValue
with_part n p = record n { part = p }

abbrev pub with_feed : NodeValue → FeedValue → NodeValue
with_feed n feed = record n { feed = feed }

abbrev pub with_heard : NodeValue → DigestValue → NodeValue
with_heard n d = record n { heard = Some d }

abbrev pub with_frames : NodeValue → List (List ℕ) → NodeValue
with_frames n frames = record n { frames = frames }

-- a node that has heard nothing
abbrev pub new_node : ℕ → Change → NodeValue
new_node id first = record { part = new_part id first; feed = new_feed; heard = None; frames = [] }

-- the call ended so, with its status and the node after it; or an allocation failed, and nothing changed
pub record Ends (old : NodeValue) (IsEnd : NodeValue → ℕ → Type 0) (new : NodeValue) (status : ℕ) : Type 0 where
  pub ended : status ≢ no_memory → IsEnd new status
  pub memory : status ≡ no_memory → new ≡ old

-- ---- what it shows

-- the spans of a set, if there is one
abbrev pub spans_in : Option (List Interval) → List Interval
spans_in None = []
spans_in (Some spans) = spans

-- what the partition gave, and what it loaded, under a number whose course it knows
abbrev pub given_spans : NodeValue → ℕ → List Interval
given_spans n number = spans_in (option_map (λ course. given_by n.part number) (known_to n.part number))

abbrev pub loaded_spans : NodeValue → ℕ → List Interval
loaded_spans n number = spans_in (option_map (λ course. loaded_by n.part number) (known_to n.part number))
