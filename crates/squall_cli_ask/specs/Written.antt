-- What was written of the answers to lines of keys, by what was returned (this project's command line).
use Rattle.std.specs.Prelude.{◌≡◌, ℕ, List, [], Result, Ok, Err}
use Rattle.squall_board.specs.Boards.{says}
use Rattle.squall_board.specs.Route.{route}
use Rattle.squall_cli_lines.specs.Script.{IsOutcomeOf, IsPrompt, PlaysOnly, Script, IsPrefix}
use Rattle.squall_cli_lines.specs.declared.Ended.{Ended}
use Rattle.squall_cli_lines.specs.declared.Ended.TheVariants.{Fine, Refused}
use Rattle.squall_cli_lines.specs.declared.RunFault.{RunFault}
use Rattle.squall_cli_lines.specs.declared.RunFault.TheVariants.{Read, Write, NoMemory}
use Rattle.squall_cli_command.specs.declared.form.Form.TheVariants.{Lines}
use Rattle.squall_cli_boards.specs.Files.{FileValue}
use Rattle.squall_cli_boards.specs.Answers.{AnswerValue}
use Rattle.squall_cli_boards.specs.Known.{KnownValue, newest_of}
use Rattle.squall_cli_ask.specs.Keys.{keys_script}

-- what was written of the text that refuses a file: all of it; after a write fault a prefix; and after a failed allocation nothing
abbrev pub IsRefusal : Result Ended RunFault → List ℕ → List ℕ → Type 0
IsRefusal (Ok Fine) line written = ⊥
IsRefusal (Ok Refused) line written = written ≡ line
IsRefusal (Err Read) line written = ⊥
IsRefusal (Err Write) line written = IsPrefix written line
IsRefusal (Err NoMemory) line written = written ≡ []

-- what is answered to lines of keys by a course and its board
abbrev pub script_of : KnownValue → List (List ℕ) → Script
script_of k = keys_script (route k.course (says k.board)) 0

-- what was written of the answers to the lines that were read; or of what refuses a file, and then no line is read
abbrev pub AnswersLines : Result KnownValue AnswerValue → Result Ended RunFault → List ℕ → List ℕ → Type 0
AnswersLines (Ok k) result read written = IsOutcomeOf result (script_of k) read written
AnswersLines (Err refusal) result read written = (read ≡ []) × IsRefusal result refusal.text written

-- `route` without keys: what was written for these files and the bytes that were read
abbrev pub AnswersKeys : Result Ended RunFault → List FileValue → List ℕ → List ℕ → Type 0
AnswersKeys result files read written = AnswersLines (newest_of Lines files) result read written

-- the lines that came before the last read were answered before it, if no file is refused
abbrev pub PromptBy : Result KnownValue AnswerValue → List ℕ → List ℕ → Type 0
PromptBy (Ok k) read written = IsPrompt (PlaysOnly (script_of k)) read written
PromptBy (Err refusal) read written = read ≡ []

abbrev pub IsPromptFor : List FileValue → List ℕ → List ℕ → Type 0
IsPromptFor files read written = PromptBy (newest_of Lines files) read written
