-- The numbers by which calls that take frames say how they ended (this project).
use Rattle.std.specs.Prelude.{ℕ, Option, None, Some, Result, Ok, Err}
use Rattle.squall_wire.specs.declared.fault.WireFault.{WireFault}
use Rattle.squall_wire.specs.declared.fault.WireFault.TheVariants.{Magic, Version, Kind, TooLong, Short, Count, Range, Order, Spare, NoMemory}
use Rattle.squall_wire.specs.declared.feed.FeedFault.{FeedFault}
use Rattle.squall_wire.specs.declared.feed.FeedFault.TheVariants.{Failed, NoMemory as NoMemoryToFeed}

-- it was done
abbrev pub ok : ℕ
ok = 0

-- an allocation failed
abbrev pub no_memory : ℕ
no_memory = 1

-- a fault ended the stream before
abbrev pub failed : ℕ
failed = 4

-- the number of a fault of a frame; a feed tells neither `Short` nor a failed allocation
abbrev pub wire_status : WireFault → ℕ
wire_status Magic = 51
wire_status Version = 52
wire_status Kind = 53
wire_status TooLong = 54
wire_status Short = 55
wire_status Count = 56
wire_status Range = 57
wire_status Order = 58
wire_status Spare = 59
wire_status NoMemory = no_memory

-- that of the fault that ended a stream, if there is one
abbrev pub heard_status : Option WireFault → ℕ
heard_status None = ok
heard_status (Some fault) = wire_status fault

-- the number of how it ended that a whole frame came
abbrev pub hear_status : Result (Unit {0}) WireFault → ℕ
hear_status (Ok done) = ok
hear_status (Err fault) = wire_status fault

-- the number of how it ended that a piece of a stream came
abbrev pub feed_status : Result (Option WireFault) FeedFault → ℕ
feed_status (Ok fault) = heard_status fault
feed_status (Err Failed) = failed
feed_status (Err NoMemoryToFeed) = no_memory
