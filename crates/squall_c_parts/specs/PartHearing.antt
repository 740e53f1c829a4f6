-- What a node of the C library hears in one whole frame (this project).
use Rattle.std.specs.Prelude.{◌≡◌, ℕ, List, Result, Ok, Err}
use Rattle.squall_board.specs.Boards.{BoardValue}
use Rattle.squall_wire.specs.declared.fault.WireFault.{WireFault}
use Rattle.squall_wire.specs.declared.message.Message.{Message}
use Rattle.squall_wire.specs.declared.message.Message.TheVariants.{Delta, Digest}
use Rattle.squall_wire.specs.Messages.{IsMessage, body_of, spell}
use Rattle.squall_part.specs.Parts.{PartValue}
use Rattle.squall_replay.specs.Calls.{Absorbs}
use Rattle.squall_c_frames.specs.WholeFrames.{whole_at, IsFaultOf}
use Rattle.squall_c_frames.specs.FrameStatus.{hear_status}
use Rattle.squall_c_parts.specs.Nodes.{NodeValue, with_part, with_heard}

-- the node's partition has absorbed the delta
pub record AbsorbsDelta (old : NodeValue) (delta : BoardValue) (new : NodeValue) : Type 0 where
  pub part : PartValue
  pub absorbs : Absorbs old.part delta part
  pub node : new ≡ with_part old part

-- a delta is absorbed, and a digest kept
abbrev pub TakesMessage : NodeValue → Message → NodeValue → Type 0
TakesMessage old (Delta delta) new = AbsorbsDelta old delta new
TakesMessage old (Digest digest) new = new ≡ with_heard old digest

-- the frame's message is taken
pub record HearsMessage (old : NodeValue) (frame : List ℕ) (new : NodeValue) : Type 0 where
  pub message : Message
  pub is : IsMessage message
  pub spelled : frame ≡ spell message
  pub says : whole_at frame ≡ Ok (body_of message)
  pub takes : TakesMessage old message new

-- it is, or why not, and then nothing changes
abbrev pub TakesFrame : List ℕ → NodeValue → Result (Unit {0}) WireFault → NodeValue → Type 0
TakesFrame frame old (Ok done) new = HearsMessage old frame new
TakesFrame frame old (Err fault) new = IsFaultOf frame fault × (new ≡ old)

-- a node after one whole frame came to it: the status is the number of how that ended
pub record HearsFrame (frame : List ℕ) (old new : NodeValue) (status : ℕ) : Type 0 where
  pub answer : Result (Unit {0}) WireFault
  pub takes : TakesFrame frame old answer new
  pub told : status ≡ hear_status answer
