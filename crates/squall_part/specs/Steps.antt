-- The steps of a gift and of a load (this project).
use Rattle.std.specs.Prelude.{◌≡◌, ℕ, Result, Ok, Err, Some}
use Rattle.squall_course.specs.Change.{Change}
use Rattle.squall_part.specs.declared.giving.GiveFault.{GiveFault}
use Rattle.squall_protocol.specs.Chunks.{ChunkValue}
use Rattle.squall_part.specs.Parts.{PartValue, known_to}
use Rattle.squall_part.specs.Logs.{IsLogAt}
use Rattle.squall_part.specs.Giving.{after_giving}

-- the partition after the chunk is given, or after the fault
abbrev pub given_on : PartValue → Result ChunkValue GiveFault → PartValue
given_on p (Ok c) = after_giving p c.span
given_on p (Err e) = p

-- the log of the chunk's course, which is known, is at the place
abbrev pub IsLoadPlace : PartValue → ChunkValue → ℕ → Type 0
IsLoadPlace p c at = (course : Change) × (known_to p c.number ≡ Some course) × IsLogAt p.logs course at
