-- The frames of a board, of its digest and of a repair (this project).
use Rattle.std.specs.Prelude.{◌≡◌, ℕ, ◌<◌, ◌≤◌, List, [], ◌∷◌, map, length, Result, Ok, Err, ◌⊎◌}
use Rattle.std.specs.List.{AllByRecursion}
use Rattle.squall_board.specs.Boards.{BoardValue}
use Rattle.squall_wire.specs.declared.message.Message.TheVariants.{Delta, Digest}
use Rattle.squall_wire.specs.DigestValue.{DigestValue}
use Rattle.squall_wire.specs.declared.encoding.EncodeFault.{EncodeFault}
use Rattle.squall_wire.specs.declared.encoding.EncodeFault.TheVariants.{TooLong as TooLongToEncode, NoMemory as NoMemoryToEncode}
use Rattle.squall_wire.specs.Limits.{body_limit}
use Rattle.squall_wire.specs.Messages.{spell, spell_body, body_of}
use Rattle.squall_delta.specs.declared.cut.fault.CutFault.{CutFault}
use Rattle.squall_delta.specs.declared.cut.fault.CutFault.TheVariants.{TooLong as TooLongToCut, NoMemory as NoMemoryToCut}
use Rattle.squall_delta.specs.Pieces.{ArePiecesWithin, EachFitsWithin}
use Rattle.squall_delta.specs.Hashes.{digest_of}
use Rattle.squall_delta.specs.Repairs.{IsRepair}
use Rattle.squall_c_frames.specs.declared.fault.FrameFault.{FrameFault}
use Rattle.squall_c_frames.specs.declared.fault.FrameFault.TheVariants.{TooLong, NoMemory}

-- the frames of boards, one for each
abbrev pub frames_of : List BoardValue → List (List ℕ)
frames_of ps = map (λ p. spell (Delta p)) ps

-- the frame has at most so many bytes
abbrev pub HasAtMost : ℕ → List ℕ → Type 0
HasAtMost limit frame = length frame ≤ limit

-- why frames are not made: as of cutting a board, or of encoding a message
abbrev pub fault_of_cut : CutFault → FrameFault
fault_of_cut TooLongToCut = TooLong
fault_of_cut NoMemoryToCut = NoMemory

abbrev pub fault_of_encoding : EncodeFault → FrameFault
fault_of_encoding TooLongToEncode = TooLong
fault_of_encoding NoMemoryToEncode = NoMemory

-- such frames were made, or one would be too long, unless an allocation failed
abbrev pub Makes : (List (List ℕ) → Type 0) → Type 0 → Result (List (List ℕ)) FrameFault → Type 0
Makes AreFrames IsLong (Ok frames) = AreFrames frames
Makes AreFrames IsLong (Err TooLong) = IsLong
Makes AreFrames IsLong (Err NoMemory) = Unit {0}

-- ---- the board

-- the frames of the board's pieces, each of at most so many bytes: each item of the board has such a frame
pub record ArePieceFrames (limit : ℕ) (b : BoardValue) (frames : List (List ℕ)) : Type 0 where
  pub pieces : List BoardValue
  pub cut : ArePiecesWithin limit b pieces
  pub are : frames ≡ frames_of pieces
  pub short : AllByRecursion (HasAtMost limit) frames
  pub each : EachFitsWithin limit b

-- some item of the board has no frame of at most so many bytes; the longest that an item can have has 98,337
pub record HasLongItem (limit : ℕ) (b : BoardValue) : Type 0 where
  pub some : EachFitsWithin limit b → ⊥
  pub low : limit < 98337

-- the frames, or that an item is too long, unless an allocation failed
abbrev pub IsBoardFrames : ℕ → BoardValue → Result (List (List ℕ)) FrameFault → Type 0
IsBoardFrames limit b made = Makes (ArePieceFrames limit b) (HasLongItem limit b) made

-- ---- a repair

-- the frames of the pieces of a repair of the board by the digest, each of at most so many bytes
abbrev pub AreRepairFrames : ℕ → BoardValue → DigestValue → List (List ℕ) → Type 0
AreRepairFrames limit b d frames = (repair : BoardValue) × IsRepair b d repair × ArePieceFrames limit repair frames

-- some item of such a repair has no frame of at most so many bytes
abbrev pub HasLongRepair : ℕ → BoardValue → DigestValue → Type 0
HasLongRepair limit b d = (repair : BoardValue) × IsRepair b d repair × HasLongItem limit repair

-- the frames, or that an item is too long, unless an allocation failed
abbrev pub IsRepairFrames : ℕ → BoardValue → DigestValue → Result (List (List ℕ)) FrameFault → Type 0
IsRepairFrames limit b d made = Makes (AreRepairFrames limit b d) (HasLongRepair limit b d) made

-- ---- the digest

-- the frame of the digest of the board
abbrev pub digest_bytes : BoardValue → List ℕ
digest_bytes b = spell (Digest (digest_of b))

-- that frame alone, which has at most so many bytes
abbrev pub AreDigestFrames : ℕ → BoardValue → List (List ℕ) → Type 0
AreDigestFrames limit b frames = (frames ≡ digest_bytes b ∷ []) × HasAtMost limit (digest_bytes b)

-- how many bytes the body of the digest of a board has
abbrev pub digest_length : BoardValue → ℕ
digest_length b = length (spell_body (body_of (Digest (digest_of b))))

-- the frame of the digest has more bytes than that, or its body more than any frame has
abbrev pub HasLongDigest : ℕ → BoardValue → Type 0
HasLongDigest limit b = (body_limit < digest_length b) ⊎ (limit < length (digest_bytes b))

-- the frame of the digest, or that it is too long, unless an allocation failed
abbrev pub IsDigestFrame : ℕ → BoardValue → Result (List (List ℕ)) FrameFault → Type 0
IsDigestFrame limit b made = Makes (AreDigestFrames limit b) (HasLongDigest limit b) made
