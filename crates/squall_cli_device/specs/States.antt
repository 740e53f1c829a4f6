-- The states of a source and of a sink, and what became of one between an old state and a new one.
use Rattle.std.specs.Prelude.{◌≡◌, ◌⊎◌, ℕ, List, Option}
use Rattle.std.specs.Io.KnownBytes.{Consumes, Appends, IsAtEnd}
use Rattle.squall_cli_device.specs.Counts.{IsCountedSince}

-- A source: the bytes that reads will give from here on, if they are known. How many reads were made, how many failed, and how
-- many found the end of the input: they had room, and gave no byte. Each count stops at the greatest u64.
pub record SourceState : Type 0 where
  pub remaining : Option (List ℕ)
  pub reads : ℕ
  pub faults : ℕ
  pub ends : ℕ

-- A sink: the bytes that were taken, if they are known. How many writes failed, and how many had bytes to take and took none. Each
-- count stops at the greatest u64.
pub record SinkState : Type 0 where
  pub contents : Option (List ℕ)
  pub faults : ℕ
  pub empties : ℕ

-- a source of these bytes of which nothing was read yet
abbrev pub unread_source : Option (List ℕ) → SourceState
unread_source bytes = record { remaining = bytes; reads = 0; faults = 0; ends = 0 }

-- a sink that had these bytes before the first write to it
abbrev pub unwritten_sink : Option (List ℕ) → SinkState
unwritten_sink bytes = record { contents = bytes; faults = 0; empties = 0 }

-- ---- sources

-- the source gave these bytes
abbrev pub GaveBytes : SourceState → SourceState → List ℕ → Type 0
GaveBytes old new bytes = Consumes old.remaining new.remaining bytes

-- a read found the end
abbrev pub FoundEnd : SourceState → SourceState → Type 0
FoundEnd old new = IsCountedSince old.ends new.ends

-- a read found the end, and nothing is left
abbrev pub GaveAll : SourceState → SourceState → Type 0
GaveAll old new = FoundEnd old new × IsAtEnd new.remaining

-- no read was counted as failed
abbrev pub NoReadFails : SourceState → SourceState → Type 0
NoReadFails old new = new.faults ≡ old.faults

-- ---- sinks

-- the sink took these bytes
abbrev pub TookBytes : SinkState → SinkState → List ℕ → Type 0
TookBytes old new bytes = Appends old.contents new.contents bytes

-- a write failed, or took no byte of some
abbrev pub OutputFails : SinkState → SinkState → Type 0
OutputFails old new = IsCountedSince old.faults new.faults ⊎ IsCountedSince old.empties new.empties

-- no write was counted as failed, and none as one that took nothing
abbrev pub NoWriteFails : SinkState → SinkState → Type 0
NoWriteFails old new = (new.faults ≡ old.faults) × (new.empties ≡ old.empties)

-- ---- both

-- some bytes were read of the source and some written to the sink, and they are as the relation says
abbrev pub ReadAndWrote : SourceState → SourceState → SinkState → SinkState → (List ℕ → List ℕ → Type 0) → Type 0
ReadAndWrote source source' sink sink' Says =
    (read : List ℕ) × (written : List ℕ) × GaveBytes source source' read × TookBytes sink sink' written × Says read written
