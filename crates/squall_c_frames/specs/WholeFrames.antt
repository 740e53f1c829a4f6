-- What bytes say as one whole frame (this project).
use Rattle.std.specs.Prelude.{◌≡◌, ◌≢◌, ℕ, ◌==◌, List, length, Result, Ok, Err, IsOk, if◌then◌else◌}
use Rattle.squall_wire.specs.declared.fault.WireFault.{WireFault}
use Rattle.squall_wire.specs.declared.fault.WireFault.TheVariants.{Spare, NoMemory}
use Rattle.squall_wire.specs.Messages.{Body}
use Rattle.squall_wire.specs.Reading.{frame_at, message_at}

-- of a frame that was read from the front of so many bytes: what it says, if it takes all of them; bytes behind it are spare
abbrev pub filling : ℕ → Result (Body × ℕ) WireFault → Result Body WireFault
filling len (Ok (body, taken)) = if taken == len then Ok body else Err Spare
filling len (Err fault) = Err fault

-- what the bytes say as one whole frame, or their first fault
abbrev pub whole_at : List ℕ → Result Body WireFault
whole_at bytes = filling (length bytes) (message_at bytes)

-- the bytes begin with a whole frame, whatever its body says: its head has no fault, and no byte of it is missing
abbrev pub HasFrame : List ℕ → Type 0
HasFrame bytes = IsOk (frame_at bytes)

-- why bytes are not heard as one whole frame: their first fault; or an allocation failed, but only if they begin with a whole frame
pub record IsFaultOf (bytes : List ℕ) (fault : WireFault) : Type 0 where
  pub told : fault ≢ NoMemory → whole_at bytes ≡ Err fault
  pub memory : fault ≡ NoMemory → HasFrame bytes
