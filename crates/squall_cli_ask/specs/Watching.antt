-- What is written while the course of two files is watched (this project's command line).
use Rattle.std.specs.Prelude.{◌≡◌, ℕ, List, [], Bool, Option, Result, Ok, Err, codes}
use Rattle.squall_plan.specs.declared.range.PlanRange.{PlanRange}
use Rattle.squall_plan.specs.declared.fault.PlanFault.{PlanFault}
use Rattle.squall_plan.specs.Form.{plan_of_text}
use Rattle.squall_board.specs.Boards.{empty_board}
use Rattle.squall_cli_device.specs.States.{SinkState}
use Rattle.squall_cli_lines.specs.declared.RunFault.{RunFault}
use Rattle.squall_cli_lines.specs.declared.RunFault.TheVariants.{Read, Write, NoMemory}
use Rattle.squall_cli_lines.specs.Script.{IsPrefix}
use Rattle.squall_cli_command.specs.declared.stream.WatchAsk.{WatchAsk}
use Rattle.squall_cli_boards.specs.Files.{FileValue}
use Rattle.squall_cli_boards.specs.Answers.{refusing_plan, bytes_at}
use Rattle.squall_cli_boards.specs.Known.{first_course}
use Rattle.squall_cli_watch.specs.declared.ending.WatchEnd.{WatchEnd}
use Rattle.squall_cli_watch.specs.declared.ending.WatchEnd.TheVariants.{Fine, Refused, Complete}
use Rattle.squall_cli_watch.specs.Watched.{AnswersFrames, IsPrompt, Watches}
use Rattle.squall_cli_watch.specs.Drawn.{ShowsBars}

-- what was written of the text that refuses a plan: all of it; after a write fault a prefix; and after a failed allocation nothing
abbrev pub IsPlanRefusal : Result WatchEnd RunFault → List ℕ → List ℕ → Type 0
IsPlanRefusal (Ok Fine) line written = ⊥
IsPlanRefusal (Ok Refused) line written = written ≡ line
IsPlanRefusal (Ok Complete) line written = ⊥
IsPlanRefusal (Err Read) line written = ⊥
IsPlanRefusal (Err Write) line written = IsPrefix written line
IsPlanRefusal (Err NoMemory) line written = written ≡ []

-- what was written for the bytes that were read, by the plans of two texts; or of what refuses the old one, or else the new one, and
-- then nothing is read
abbrev pub WatchesPlans : WatchAsk → Result (List PlanRange) PlanFault → Result (List PlanRange) PlanFault → Result WatchEnd RunFault → List ℕ → List ℕ → Type 0
WatchesPlans how (Ok old) (Ok new) result read written = Watches how result old new read written
WatchesPlans how (Ok old) (Err fault) result read written = (read ≡ []) × IsPlanRefusal result (refusing_plan how.form (codes "new") fault).text written
WatchesPlans how (Err fault) new result read written = (read ≡ []) × IsPlanRefusal result (refusing_plan how.form (codes "old") fault).text written

-- `watch`: the first two files are the plans
abbrev pub WatchesFiles : WatchAsk → Result WatchEnd RunFault → List FileValue → List ℕ → List ℕ → Type 0
WatchesFiles how result files read written = WatchesPlans how (plan_of_text (bytes_at files 0)) (plan_of_text (bytes_at files 1)) result read written

-- the frames that came before the last read were answered before it, by the plans of two texts; or one of these is refused, and then
-- nothing is read
abbrev pub PromptByPlans : WatchAsk → Result (List PlanRange) PlanFault → Result (List PlanRange) PlanFault → List ℕ → List ℕ → Type 0
PromptByPlans how (Ok old) (Ok new) read written = IsPrompt (AnswersFrames how (first_course old new) empty_board []) read written
PromptByPlans how (Ok old) (Err fault) read written = read ≡ []
PromptByPlans how (Err fault) new read written = read ≡ []

-- `watch` answers as it reads: the frames that came before the last read were answered before it, by the plans of the first two files
abbrev pub WatchesPromptly : WatchAsk → List FileValue → List ℕ → List ℕ → Type 0
WatchesPromptly how files read written = PromptByPlans how (plan_of_text (bytes_at files 0)) (plan_of_text (bytes_at files 1)) read written

-- what is drawn on standard error, by the plans of two texts: bars if both are plans and it is a terminal, and otherwise nothing
abbrev pub ShowsBarsOf : Bool → WatchAsk → Result (List PlanRange) PlanFault → Result (List PlanRange) PlanFault → Result WatchEnd RunFault → Option (List ℕ) → Option (List ℕ)
    → SinkState → SinkState → Type 0
ShowsBarsOf terminal how (Ok old) (Ok new) result before after err err' = ShowsBars terminal how (first_course old new) empty_board result before after err err'
ShowsBarsOf terminal how (Ok old) (Err fault) result before after err err' = err' ≡ err
ShowsBarsOf terminal how (Err fault) new result before after err err' = err' ≡ err

-- the same if the first two files are the plans
abbrev pub ShowsBarsOfFiles : Bool → WatchAsk → List FileValue → Result WatchEnd RunFault → Option (List ℕ) → Option (List ℕ) → SinkState → SinkState → Type 0
ShowsBarsOfFiles terminal how files result before after err err' =
    ShowsBarsOf terminal how (plan_of_text (bytes_at files 0)) (plan_of_text (bytes_at files 1)) result before after err err'
