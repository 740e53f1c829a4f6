-- What a router of the C library hears in one whole frame (this project).
use Rattle.std.specs.Prelude.{◌≡◌, ℕ, List, [], ◌∷◌, Some, Result, Ok, Err}
use Rattle.squall_board.specs.Boards.{BoardValue, board_join}
use Rattle.squall_wire.specs.declared.fault.WireFault.TheVariants.{NoMemory as NoMemoryForFrame}
use Rattle.squall_wire.specs.declared.message.Message.{Message}
use Rattle.squall_wire.specs.DigestValue.{DigestValue}
use Rattle.squall_wire.specs.Messages.{IsMessage, body_of, spell}
use Rattle.squall_router.specs.declared.fault.AbsorbFault.{AbsorbFault}
use Rattle.squall_router.specs.declared.fault.AbsorbFault.TheVariants.{Full as FullBoard, NoMemory}
use Rattle.squall_router.specs.Routers.{router_with}
use Rattle.squall_c_frames.specs.WholeFrames.{whole_at, IsFaultOf}
use Rattle.squall_c.specs.declared.hearing.WholeFault.{WholeFault}
use Rattle.squall_c.specs.declared.hearing.WholeFault.TheVariants.{Frame, Full}
use Rattle.squall_c.specs.declared.router.RouterSlot.{RouterSlot}
use Rattle.squall_c.specs.declared.router.Station.{Station}
use Rattle.squall_c.specs.Status.{ok, full}
use Rattle.squall_c_frames.specs.FrameStatus.{wire_status}
use Rattle.squall_c.specs.Opening.{AnswersIn}
use Rattle.squall_c.specs.Limits.{IsAdmitted, IsRefused, count_after}
use Rattle.squall_c.specs.Feeding.{heard_station}

-- ---- one message

-- the station whose router has absorbed the delta of one frame more
abbrev pub absorbed_station : Station → BoardValue → Station
absorbed_station s d = record s { router = router_with s.router.first (board_join s.router.board d); taken = count_after s.taken 1 }

-- the station that keeps the digest of one frame more
abbrev pub kept_station : Station → DigestValue → Station
kept_station s d = record s { heard = Some d; taken = count_after s.taken 1 }

-- ---- faults

abbrev pub whole_fault : AbsorbFault → WholeFault
whole_fault FullBoard = Full
whole_fault NoMemory = Frame NoMemoryForFrame

-- ---- whole frames

-- the frame's message is heard, which is within the limit, and what was fed of a stream waits on
pub record HearsMessage (old : Station) (frame : List ℕ) (new : Station) : Type 0 where
  pub message : Message
  pub is : IsMessage message
  pub spelled : frame ≡ spell message
  pub says : whole_at frame ≡ Ok (body_of message)
  pub admitted : IsAdmitted old (message ∷ [])
  pub after : new ≡ heard_station old (message ∷ []) old.feed

-- the message is beyond the limit
pub record RefusesMessage (old : Station) (frame : List ℕ) : Type 0 where
  pub message : Message
  pub is : IsMessage message
  pub spelled : frame ≡ spell message
  pub says : whole_at frame ≡ Ok (body_of message)
  pub refused : IsRefused old (message ∷ [])

-- the message is heard, or why not, and then nothing changes
abbrev pub HearsWhole : List ℕ → Station → Result (Unit {0}) WholeFault → Station → Type 0
HearsWhole frame old (Ok done) new = HearsMessage old frame new
HearsWhole frame old (Err (Frame fault)) new = IsFaultOf frame fault × (new ≡ old)
HearsWhole frame old (Err Full) new = RefusesMessage old frame × (new ≡ old)

-- the number of how it ended that a whole frame came
abbrev pub whole_number : Result (Unit {0}) WholeFault → ℕ
whole_number (Ok done) = ok
whole_number (Err (Frame fault)) = wire_status fault
whole_number (Err Full) = full

-- a slot after one whole frame came to it: the status is the number of how that ended
abbrev pub HearsFrame : List ℕ → RouterSlot → RouterSlot → ℕ → Type 0
HearsFrame frame old new status = AnswersIn whole_number (HearsWhole frame) old old.station new status
