-- The frames that wait in a router of the C library until they are fetched (this project).
use Rattle.std.specs.Prelude.{◌≡◌, ℕ, List, [], Option, None, Some, Result, Ok, Err, ◌⊎◌}
use Rattle.squall_wire.specs.DigestValue.{DigestValue}
use Rattle.squall_c_frames.specs.declared.fault.FrameFault.{FrameFault}
use Rattle.squall_c_frames.specs.declared.fault.FrameFault.TheVariants.{TooLong, NoMemory}
use Rattle.squall_c_frames.specs.Queues.{frames_after}
use Rattle.squall_c_frames.specs.BoardFrames.{ArePieceFrames, AreRepairFrames, AreDigestFrames, HasLongItem, HasLongRepair, HasLongDigest}
use Rattle.squall_c.specs.declared.router.RouterSlot.{RouterSlot}
use Rattle.squall_c.specs.declared.router.Station.{Station}
use Rattle.squall_c.specs.Status.{ok, no_memory, closed, too_long, no_digest}
use Rattle.squall_c.specs.Opening.{with_station, with_frames, Ends}

-- ---- in a station

-- the frames that were made wait in the station, in place of those before; or the status tells why none were made, and nothing changes
abbrev pub Keeps : Result (List (List ℕ)) FrameFault → Station → Station → ℕ → Type 0
Keeps (Ok frames) old new status = (status ≡ ok) × (new ≡ with_frames old frames)
Keeps (Err TooLong) old new status = (status ≡ too_long) × (new ≡ old)
Keeps (Err NoMemory) old new status = (status ≡ no_memory) × (new ≡ old)

-- such frames wait in the station, in place of those before
pub record KeepsFrames (AreFrames : List (List ℕ) → Type 0) (old new : Station) : Type 0 where
  pub frames : List (List ℕ)
  pub are : AreFrames frames
  pub kept : new ≡ with_frames old frames

-- the same; or one would be too long, or an allocation failed, and nothing changes
abbrev pub KeepsAs : (List (List ℕ) → Type 0) → Type 0 → Station → Station → ℕ → Type 0
KeepsAs AreFrames IsLong old new status =
    ((status ≡ ok) × KeepsFrames AreFrames old new) ⊎ (((status ≡ too_long) × (new ≡ old) × IsLong) ⊎ ((status ≡ no_memory) × (new ≡ old)))

-- the frames of the board's pieces wait, each of at most so many bytes
abbrev pub KeepsBoard : ℕ → Station → Station → ℕ → Type 0
KeepsBoard limit old new status = KeepsAs (ArePieceFrames limit old.router.board) (HasLongItem limit old.router.board) old new status

-- the frame of the board's digest waits, likewise
abbrev pub KeepsDigest : ℕ → Station → Station → ℕ → Type 0
KeepsDigest limit old new status = KeepsAs (AreDigestFrames limit old.router.board) (HasLongDigest limit old.router.board) old new status

-- the frames of the pieces of a repair of the board by the digest wait, likewise, if there is a digest
abbrev pub KeepsRepair : ℕ → Station → Option DigestValue → Station → ℕ → Type 0
KeepsRepair limit old None new status = (status ≡ no_digest) × (new ≡ old)
KeepsRepair limit old (Some d) new status = KeepsAs (AreRepairFrames limit old.router.board d) (HasLongRepair limit old.router.board d) old new status

-- ---- in a slot

-- such frames wait in the slot, in place of those before
pub record Waits (AreFrames : List (List ℕ) → Type 0) (old : RouterSlot) (s : Station) (new : RouterSlot) (status : ℕ) : Type 0 where
  pub told : status ≡ ok
  pub station : Station
  pub keeps : KeepsFrames AreFrames s station
  pub after : new ≡ with_station old station

-- the same; or one would be too long, and nothing changes
abbrev pub WaitsOr : (List (List ℕ) → Type 0) → Type 0 → RouterSlot → Station → RouterSlot → ℕ → Type 0
WaitsOr AreFrames IsLong old s new status = Waits AreFrames old s new status ⊎ ((status ≡ too_long) × (new ≡ old) × IsLong)

-- the same; or an allocation failed, and nothing changes
abbrev pub Gathers : (List (List ℕ) → Type 0) → Type 0 → RouterSlot → Station → RouterSlot → ℕ → Type 0
Gathers AreFrames IsLong old s new status = Ends old (WaitsOr AreFrames IsLong old s) new status

abbrev pub station_gathers_board : ℕ → RouterSlot → Option Station → RouterSlot → ℕ → Type 0
station_gathers_board limit old None new status = (status ≡ closed) × (new ≡ old)
station_gathers_board limit old (Some s) new status = Gathers (ArePieceFrames limit s.router.board) (HasLongItem limit s.router.board) old s new status

-- the frames of the board's pieces wait, each of at most so many bytes
abbrev pub GathersBoard : ℕ → RouterSlot → RouterSlot → ℕ → Type 0
GathersBoard limit old new status = station_gathers_board limit old old.station new status

abbrev pub station_gathers_digest : ℕ → RouterSlot → Option Station → RouterSlot → ℕ → Type 0
station_gathers_digest limit old None new status = (status ≡ closed) × (new ≡ old)
station_gathers_digest limit old (Some s) new status = Gathers (AreDigestFrames limit s.router.board) (HasLongDigest limit s.router.board) old s new status

-- the frame of the board's digest waits, likewise
abbrev pub GathersDigest : ℕ → RouterSlot → RouterSlot → ℕ → Type 0
GathersDigest limit old new status = station_gathers_digest limit old old.station new status

abbrev pub gathers_repair_by : ℕ → RouterSlot → Station → Option DigestValue → RouterSlot → ℕ → Type 0
gathers_repair_by limit old s None new status = (status ≡ no_digest) × (new ≡ old)
gathers_repair_by limit old s (Some d) new status = Gathers (AreRepairFrames limit s.router.board d) (HasLongRepair limit s.router.board d) old s new status

abbrev pub station_gathers_repair : ℕ → RouterSlot → Option Station → RouterSlot → ℕ → Type 0
station_gathers_repair limit old None new status = (status ≡ closed) × (new ≡ old)
station_gathers_repair limit old (Some s) new status = gathers_repair_by limit old s s.heard new status

-- the frames of what the digest heard last does not show of the board wait, likewise
abbrev pub GathersRepair : ℕ → RouterSlot → RouterSlot → ℕ → Type 0
GathersRepair limit old new status = station_gathers_repair limit old old.station new status

-- ---- fetching

-- the frames that wait
abbrev pub waiting_frames : Option Station → List (List ℕ)
waiting_frames None = []
waiting_frames (Some s) = s.frames

-- the slot with other frames that wait, if there is a router
abbrev pub slot_with_frames : RouterSlot → Option Station → List (List ℕ) → RouterSlot
slot_with_frames old None frames = old
slot_with_frames old (Some s) frames = with_station old (with_frames s frames)

-- the slot after the first frame that waits was to be put into the room
abbrev pub slot_after : RouterSlot → List ℕ → RouterSlot
slot_after old room = slot_with_frames old old.station (frames_after (waiting_frames old.station) room)
