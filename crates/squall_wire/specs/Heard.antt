-- What a feed hears in a stream, computed frame by frame, slow and plain (this project).
use Rattle.std.specs.Prelude.{ℕ, zero, suc, List, [], ◌∷◌, length, drop, Option, Some, None, Result, Ok, Err}
use Rattle.squall_wire.specs.declared.fault.WireFault.{WireFault}
use Rattle.squall_wire.specs.declared.fault.WireFault.TheVariants.{Short}
use Rattle.squall_wire.specs.Messages.{Body}
use Rattle.squall_wire.specs.Reading.{message_at}

-- what the frames say that a stream begins with, the fault of what follows them, and what is left
pub record HeardValue : Type 0 where
  pub bodies : List Body
  pub fault : Option WireFault
  pub rest : List ℕ

abbrev pub heard_with : List Body → Option WireFault → List ℕ → HeardValue
heard_with bodies fault rest = record { bodies = bodies; fault = fault; rest = rest }

-- one frame more, before the others
abbrev pub heard_first : Body → HeardValue → HeardValue
heard_first body heard = heard_with (body ∷ heard.bodies) heard.fault heard.rest

-- after the first frame, if there is one, what is heard in the bytes after it
abbrev pub heard_next : Result (Body × ℕ) WireFault → List ℕ → (List ℕ → HeardValue) → HeardValue
heard_next (Ok x) bytes then = heard_first x.0 (then (drop x.1 bytes))
heard_next (Err Short) bytes then = heard_with [] None bytes
heard_next (Err fault) bytes then = heard_with [] (Some fault) bytes

-- of at most n frames
unfoldable pub frames_in : ℕ → List ℕ → HeardValue
frames_in zero bytes = heard_with [] None bytes
frames_in (suc n) bytes = heard_next (message_at bytes) bytes (frames_in n)

-- of all: a frame has more than one byte
abbrev pub heard_of : List ℕ → HeardValue
heard_of bytes = frames_in (length bytes) bytes
