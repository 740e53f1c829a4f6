-- What is done with the bytes of one file, for the functions that do the tasks.
use Rattle.std.specs.Prelude.{◌≡◌, ℕ, ◌<◌, List, Result}
use Rattle.squall_cli_lines.specs.Script.{IsOutcome}
use Rattle.squall_cli_lines.specs.declared.Ended.{Ended}
use Rattle.squall_cli_lines.specs.declared.RunFault.{RunFault}
use Rattle.squall_cli_run.specs.declared.tasks.Purpose.{Purpose}
use Rattle.squall_cli_run.specs.declared.tasks.Purpose.TheVariants as purpose
use Rattle.squall_cli_scenario.specs.Text.{IsScript}
use Rattle.squall_cli_run.specs.Output.{check_in, IsWritten}
use Rattle.squall_cli_run.specs.Races.{IsRaced}
use Rattle.squall_cli_ask.specs.Reads.{Bytes}
use Rattle.squall_cli_run.specs.Tasks.{RunsWith, ChecksWith, RacesWith}

-- what is written for the bytes that were read, by how it ended
abbrev pub IsAnswered : Purpose → Result Ended RunFault → List ℕ → List ℕ → Type 0
IsAnswered (purpose.Check form) outcome read written = IsWritten outcome (check_in form read) written
IsAnswered purpose.Run outcome read written = IsOutcome outcome IsScript read written
IsAnswered purpose.Race outcome read written = IsRaced outcome read written

-- the status comes only once all bytes are read
abbrev pub NeedsAll : Purpose → ℕ → Type 0
NeedsAll (purpose.Check form) status = status < 2
NeedsAll purpose.Run status = status ≡ 0
NeedsAll purpose.Race status = status < 2

-- the plan of the file is checked, or its scenario or its race run
abbrev pub IsDoneBy : Purpose → Bytes → Bytes → List ℕ → ℕ → Type 0
IsDoneBy (purpose.Check form) before after name status = ChecksWith form before after name status
IsDoneBy purpose.Run before after name status = RunsWith before after name status
IsDoneBy purpose.Race before after name status = RacesWith before after name status
