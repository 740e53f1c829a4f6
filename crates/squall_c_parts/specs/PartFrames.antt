-- The frames that wait in a node of the C library until they are fetched (this project).
use Rattle.std.specs.Prelude.{◌≡◌, ℕ, List, Option, None, Some, Result, Ok, Err, ◌⊎◌}
use Rattle.squall_wire.specs.DigestValue.{DigestValue}
use Rattle.squall_c_frames.specs.declared.fault.FrameFault.{FrameFault}
use Rattle.squall_c_frames.specs.declared.fault.FrameFault.TheVariants.{TooLong, NoMemory}
use Rattle.squall_c_frames.specs.Queues.{frames_after}
use Rattle.squall_c_frames.specs.BoardFrames.{ArePieceFrames, AreRepairFrames, AreDigestFrames, HasLongItem, HasLongRepair, HasLongDigest}
use Rattle.squall_c_parts.specs.PartStatus.{ok, no_memory, too_long, no_digest}
use Rattle.squall_c_parts.specs.Nodes.{NodeValue, with_frames, Ends}

-- the frames that were made wait in the node, in place of those before; or the status tells why none were made, and nothing changes
abbrev pub Keeps : Result (List (List ℕ)) FrameFault → NodeValue → NodeValue → ℕ → Type 0
Keeps (Ok frames) old new status = (status ≡ ok) × (new ≡ with_frames old frames)
Keeps (Err TooLong) old new status = (status ≡ too_long) × (new ≡ old)
Keeps (Err NoMemory) old new status = (status ≡ no_memory) × (new ≡ old)

-- such frames wait in the node, in place of those before
pub record KeepsFrames (AreFrames : List (List ℕ) → Type 0) (old new : NodeValue) : Type 0 where
  pub frames : List (List ℕ)
  pub are : AreFrames frames
  pub kept : new ≡ with_frames old frames

-- such frames wait; or one would be too long, and nothing changes
abbrev pub Waits : (List (List ℕ) → Type 0) → Type 0 → NodeValue → NodeValue → ℕ → Type 0
Waits AreFrames IsLong old new status = ((status ≡ ok) × KeepsFrames AreFrames old new) ⊎ ((status ≡ too_long) × (new ≡ old) × IsLong)

-- the same, or an allocation failed and nothing changes
abbrev pub Gathers : (List (List ℕ) → Type 0) → Type 0 → NodeValue → NodeValue → ℕ → Type 0
Gathers AreFrames IsLong old new status = Ends old (Waits AreFrames IsLong old) new status

-- ---- what is gathered

-- the frames of the board's pieces wait, each of at most so many bytes
abbrev pub GathersBoard : ℕ → NodeValue → NodeValue → ℕ → Type 0
GathersBoard limit old new status = Gathers (ArePieceFrames limit old.part.board) (HasLongItem limit old.part.board) old new status

-- the frame of the board's digest waits, likewise
abbrev pub GathersDigest : ℕ → NodeValue → NodeValue → ℕ → Type 0
GathersDigest limit old new status = Gathers (AreDigestFrames limit old.part.board) (HasLongDigest limit old.part.board) old new status

-- the frames of a repair of the board by the digest wait, likewise, if there is a digest
abbrev pub gathers_repair_by : ℕ → Option DigestValue → NodeValue → NodeValue → ℕ → Type 0
gathers_repair_by limit None old new status = (status ≡ no_digest) × (new ≡ old)
gathers_repair_by limit (Some d) old new status = Gathers (AreRepairFrames limit old.part.board d) (HasLongRepair limit old.part.board d) old new status

-- the frames of what the digest heard last does not show of the board wait
abbrev pub GathersRepair : ℕ → NodeValue → NodeValue → ℕ → Type 0
GathersRepair limit old new status = gathers_repair_by limit old.heard old new status

-- ---- fetching

-- the node after the first frame that waits was to be put into the room
abbrev pub node_after : NodeValue → List ℕ → NodeValue
node_after old room = with_frames old (frames_after old.frames room)
