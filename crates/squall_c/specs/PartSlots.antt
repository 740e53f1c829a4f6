-- Partitions of the C library behind their handles (this project).
use Rattle.std.specs.Prelude.{◌≡◌, ◌≢◌, ℕ, nat_lt, Bool, true, false, List, [], length, Option, None, Some}
use Rattle.squall_part.specs.Parts.{closed_by}
use Rattle.squall_key.specs.Keys.{part_limit}
use Rattle.squall_course.specs.Change.{Change}
use Rattle.squall_c_parts.specs.declared.chunks.CChunk.{CChunk}
use Rattle.squall_c_parts.specs.declared.chunks.CAnswer.{CAnswer}
use Rattle.squall_c_values.specs.declared.spans.CSpan.{CSpan}
use Rattle.squall_c_values.specs.Values.{spans_that_fit}
use Rattle.squall_c_parts.specs.Nodes.{NodeValue, new_node, given_spans, loaded_spans}
use Rattle.squall_c_parts.specs.PartCalls.{Gives, GivesAt, Closes, Loads, Finds, Finishes, Serves}
use Rattle.squall_c_parts.specs.PartHearing.{HearsFrame}
use Rattle.squall_c_parts.specs.PartFeeding.{Feeds}
use Rattle.squall_c_parts.specs.PartFrames.{GathersBoard, GathersDigest, GathersRepair, node_after}
use Rattle.squall_c.specs.declared.courses.HeldCourse.{HeldCourse}
use Rattle.squall_c.specs.declared.parts.PartSlot.{PartSlot}
use Rattle.squall_c.specs.Status.{ok, no_memory, limit, closed}

-- ---- opening

-- no partition, and why
abbrev pub no_part : ℕ → PartSlot
no_part status = record { status = status; node = None }

-- the slot with another node
abbrev pub with_node : PartSlot → NodeValue → PartSlot
with_node slot n = record slot { node = Some n }

-- the partition has heard nothing and holds what the old plan of the course gives it; or an allocation failed, and there is none
pub record IsPartOf (id : ℕ) (first : Change) (slot : PartSlot) : Type 0 where
  pub opened : slot.status ≢ no_memory → (slot.status ≡ ok) × (slot.node ≡ Some (new_node id first))
  pub memory : slot.status ≡ no_memory → slot.node ≡ None

abbrev pub opens_if : Bool → ℕ → Change → PartSlot → Type 0
opens_if true id first slot = IsPartOf id first slot
opens_if false id first slot = slot ≡ no_part limit

abbrev pub opens_with : Option HeldCourse → ℕ → PartSlot → Type 0
opens_with None id slot = slot ≡ no_part closed
opens_with (Some held) id slot = opens_if (nat_lt id part_limit) id held.course slot

-- the slot that is opened: of the partition of that number, unless there is no course, or no such partition
abbrev pub IsPartOpened : ℕ → Option HeldCourse → PartSlot → Type 0
IsPartOpened id course slot = opens_with course id slot

-- ---- calls

-- the node does this, if there is one; else the status says that there is none, nothing changes, and what is written stays
abbrev pub through : (NodeValue → NodeValue → ℕ → Type 0) → Type 0 → PartSlot → Option NodeValue → PartSlot → ℕ → Type 0
through Does Stays old None new status = (status ≡ closed) × (new ≡ old) × Stays
through Does Stays old (Some n) new status = (m : NodeValue) × Does n m status × (new ≡ with_node old m)

-- a slot after a frame came to it
abbrev pub PartHears : List ℕ → PartSlot → PartSlot → ℕ → Type 0
PartHears frame old new status = through (HearsFrame frame) (Unit {0}) old old.node new status

-- after a piece of a stream of frames was fed to it
abbrev pub PartFeeds : List ℕ → PartSlot → PartSlot → ℕ → Type 0
PartFeeds piece old new status = through (Feeds piece) (Unit {0}) old old.node new status

-- how many bytes of that stream wait for the rest of their frame, 0 if there is no partition
abbrev pub part_waiting_bytes : Option NodeValue → ℕ
part_waiting_bytes None = 0
part_waiting_bytes (Some n) = length n.feed.waiting

-- after a demand for the first keys, and for one key
abbrev pub PartGives : ℕ → PartSlot → CChunk → PartSlot → CChunk → ℕ → Type 0
PartGives most old before new after status = through (λ n m s. Gives most n before m after s) (after ≡ before) old old.node new status

abbrev pub PartGivesAt : ℕ → PartSlot → CChunk → PartSlot → CChunk → ℕ → Type 0
PartGivesAt rank old before new after status = through (λ n m s. GivesAt rank n before m after s) (after ≡ before) old old.node new status

-- after it was to close the newest course that it knows; 0 is no course's number
abbrev pub part_closes : PartSlot → Option NodeValue → PartSlot → ℕ → Type 0
part_closes old None new number = (number ≡ 0) × (new ≡ old)
part_closes old (Some n) new number = (m : NodeValue) × Closes n m number × (new ≡ with_node old m)

abbrev pub PartCloses : PartSlot → PartSlot → ℕ → Type 0
PartCloses old new number = part_closes old old.node new number

-- 1 if it gives no more under the number, and else 0
abbrev pub one_if : Bool → ℕ
one_if true = 1
one_if false = 0

abbrev pub closed_number : Option NodeValue → ℕ → ℕ
closed_number None number = 0
closed_number (Some n) number = one_if (closed_by n.part number)

-- after a chunk came to it
abbrev pub PartLoads : CChunk → PartSlot → PartSlot → ℕ → Type 0
PartLoads chunk old new status = through (Loads chunk) (Unit {0}) old old.node new status

-- the first span of the new keys of a chunk from a bound on
abbrev pub node_finds : Option NodeValue → CChunk → ℕ → CSpan → CSpan → ℕ → Type 0
node_finds None chunk from before after status = (status ≡ closed) × (after ≡ before)
node_finds (Some n) chunk from before after status = Finds chunk from n before after status

abbrev pub PartFinds : CChunk → ℕ → PartSlot → CSpan → CSpan → ℕ → Type 0
PartFinds chunk from slot before after status = node_finds slot.node chunk from before after status

-- after a sub-plan was to be finished
abbrev pub PartFinishes : ℕ → PartSlot → PartSlot → ℕ → Type 0
PartFinishes sub old new status = through (Finishes sub) (Unit {0}) old old.node new status

-- the reply to a request for a key
abbrev pub node_serves : Option NodeValue → ℕ → ℕ → CAnswer → CAnswer → ℕ → Type 0
node_serves None rank number before after status = (status ≡ closed) × (after ≡ before)
node_serves (Some n) rank number before after status = Serves rank number n before after status

abbrev pub PartServes : ℕ → ℕ → PartSlot → CAnswer → CAnswer → ℕ → Type 0
PartServes rank number slot before after status = node_serves slot.node rank number before after status

-- ---- what it shows

-- the spans of what it holds, gave and loaded, as many as the room holds
abbrev pub held_in : Option NodeValue → ℕ → List CSpan → List CSpan
held_in None from room = []
held_in (Some n) from room = spans_that_fit n.part.held from room

abbrev pub given_in : Option NodeValue → ℕ → ℕ → List CSpan → List CSpan
given_in None number from room = []
given_in (Some n) number from room = spans_that_fit (given_spans n number) from room

abbrev pub loaded_in : Option NodeValue → ℕ → ℕ → List CSpan → List CSpan
loaded_in None number from room = []
loaded_in (Some n) number from room = spans_that_fit (loaded_spans n number) from room

-- ---- frames

abbrev pub PartGathersBoard : ℕ → PartSlot → PartSlot → ℕ → Type 0
PartGathersBoard limit old new status = through (GathersBoard limit) (Unit {0}) old old.node new status

abbrev pub PartGathersDigest : ℕ → PartSlot → PartSlot → ℕ → Type 0
PartGathersDigest limit old new status = through (GathersDigest limit) (Unit {0}) old old.node new status

abbrev pub PartGathersRepair : ℕ → PartSlot → PartSlot → ℕ → Type 0
PartGathersRepair limit old new status = through (GathersRepair limit) (Unit {0}) old old.node new status

-- the frames that wait
abbrev pub part_frames : Option NodeValue → List (List ℕ)
part_frames None = []
part_frames (Some n) = n.frames

-- the slot after the first frame that waits was to be put into the room
abbrev pub slot_after_frame : PartSlot → Option NodeValue → List ℕ → PartSlot
slot_after_frame old None room = old
slot_after_frame old (Some n) room = with_node old (node_after n room)

abbrev pub part_after : PartSlot → List ℕ → PartSlot
part_after old room = slot_after_frame old old.node room
