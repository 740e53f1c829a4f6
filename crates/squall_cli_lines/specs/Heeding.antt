-- What a call says of the reads and the writes that it made, by what it returned.
use Rattle.std.specs.Prelude.{◌≡◌, ◌≢◌, ◌⊎◌, ℕ, ◌+◌, ◌≤◌, List, Result, Err}
use Rattle.squall_cli_device.specs.Counts.{IsCountedSince, times_more}
use Rattle.squall_cli_device.specs.States.{SourceState, SinkState, TookBytes, NoReadFails, OutputFails, NoWriteFails}
use Rattle.squall_cli_lines.specs.declared.RunFault.{RunFault}
use Rattle.squall_cli_lines.specs.declared.RunFault.TheVariants.{Read, Write}
use Rattle.squall_cli_lines.specs.Script.{read_limit, IsPrefix}

-- a read failed, or as many were made as of one input at most
abbrev pub InputFails : SourceState → SourceState → Type 0
InputFails old new = IsCountedSince old.faults new.faults ⊎ (times_more read_limit old.reads ≤ new.reads)

-- `Read` comes only if a read failed or there were too many. Any other answer comes only if no read failed. Whatever the source
-- does, no more reads are made than of one input at most.
abbrev pub HeedsReads : {T : Type 0} → Result T RunFault → SourceState → SourceState → Type 0
HeedsReads result old new =
    (result ≡ Err Read → InputFails old new)
    × (result ≢ Err Read → NoReadFails old new)
    × (new.reads ≤ old.reads + read_limit)

-- `Write` comes only if a write failed or took no byte of some. Any other answer comes only if no write did so.
abbrev pub HeedsWrites : {T : Type 0} → Result T RunFault → SinkState → SinkState → Type 0
HeedsWrites result old new = (result ≡ Err Write → OutputFails old new) × (result ≢ Err Write → NoWriteFails old new)

-- a text was told: the sink took a prefix of it, and all of it unless a write there failed or took no byte
abbrev pub Says : SinkState → SinkState → List ℕ → Type 0
Says old new text = (said : List ℕ) × TookBytes old new said × IsPrefix said text × ((said ≡ text) ⊎ OutputFails old new)
