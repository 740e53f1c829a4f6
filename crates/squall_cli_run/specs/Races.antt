-- What the command `race` writes of a race file (this project's command line).
use Rattle.std.specs.Prelude.{◌≡◌, ℕ, List, [], Result, Ok, Err}
use Rattle.squall_cli_lines.specs.Script.{IsPrefix}
use Rattle.squall_cli_lines.specs.declared.Ended.{Ended}
use Rattle.squall_cli_lines.specs.declared.RunFault.{RunFault}
use Rattle.squall_cli_lines.specs.declared.RunFault.TheVariants.{Read, Write, NoMemory}
use Rattle.squall_cli_race.specs.RaceText.{MayShow}

-- what was written of the race of a text, by what was returned: all that one race shows that may be run of the text and ends
-- so; after a write fault a prefix of what one race shows; and after a read fault or a failed allocation, which come before
-- anything is shown, nothing
abbrev pub IsRaced : Result Ended RunFault → List ℕ → List ℕ → Type 0
IsRaced (Ok ended) read written = MayShow read ended written
IsRaced (Err Read) read written = written ≡ []
IsRaced (Err Write) read written = (ended : Ended) × (shown : List ℕ) × MayShow read ended shown × IsPrefix written shown
IsRaced (Err NoMemory) read written = written ≡ []
