-- The status of the program, and what is told with it on standard error (this project's command line).
use Rattle.std.specs.Prelude.{◌≡◌, ◌≢◌, ◌⊎◌, ℕ, List, [], ◌∷◌, ◌++◌, Result, Ok, Err, codes, if◌then◌else◌}
use Rattle.std.specs.Io.{StartsWith}
use Rattle.squall_cli_lines.specs.declared.Ended.{Ended}
use Rattle.squall_cli_lines.specs.declared.Ended.TheVariants.{Fine, Refused}
use Rattle.squall_cli_lines.specs.declared.RunFault.{RunFault}
use Rattle.squall_cli_lines.specs.declared.RunFault.TheVariants.{Read, Write, NoMemory}
use Rattle.squall_cli_command.specs.declared.stream.WatchAsk.{WatchAsk}
use Rattle.squall_cli_watch.specs.declared.ending.WatchEnd.{WatchEnd}
use Rattle.squall_cli_ask.specs.BadReports.{BadWord, advice}
use Rattle.squall_cli_ask.specs.Shown.{shown}
use Rattle.squall_cli_watch.specs.declared.ending.WatchEnd.TheVariants as watch

-- ---- statuses

-- the status of a task by how it ended
abbrev pub status_of : Result Ended RunFault → ℕ
status_of (Ok Fine) = 0
status_of (Ok Refused) = 1
status_of (Err Read) = 3
status_of (Err Write) = 3
status_of (Err NoMemory) = 4

-- the status of a watch that has answered all of its input: 5 if it was to end once the course is complete, and 0 otherwise
abbrev pub status_at_end : WatchAsk → ℕ
status_at_end how = if how.is_until_complete then 5 else 0

-- the status of a watch by how it ended
abbrev pub status_of_watch : WatchAsk → Result WatchEnd RunFault → ℕ
status_of_watch how (Ok watch.Fine) = status_at_end how
status_of_watch how (Ok watch.Refused) = 1
status_of_watch how (Ok watch.Complete) = 0
status_of_watch how (Err fault) = status_of (Err fault)

-- the status of a fault that comes before anything is written
abbrev pub IsUnread : ℕ → Type 0
IsUnread status = (fault : RunFault) × (fault ≢ Write) × (status ≡ status_of (Err fault))

-- ---- texts

-- four texts on a line, the second one as messages show names
abbrev pub line_told : List ℕ → List ℕ → List ℕ → List ℕ → List ℕ
line_told first second third fourth = first ++ (shown second ++ (third ++ (fourth ++ codes "\n")))

-- What is told of a call of the system that failed, on a line: what it was, the name of its file, if it has one, and the reason. No
-- contract can say what a system gives as the reason.
abbrev pub failed_told : List ℕ → List ℕ → List ℕ → List ℕ
failed_told what name reason = line_told what name (codes ": ") reason

-- what is told of the fault that stopped a task, and of a device the reason
abbrev pub fault_told : RunFault → List ℕ → List ℕ
fault_told Read reason = failed_told (codes "squall: read failed") [] reason
fault_told Write reason = failed_told (codes "squall: write failed") [] reason
fault_told NoMemory reason = codes "squall: no memory\n"

-- the text is what is told of the fault, with some reason
abbrev pub TellsFault : RunFault → List ℕ → Type 0
TellsFault fault text = (reason : List ℕ) × (text ≡ fault_told fault reason)

-- what is told of how a task ended: its fault, or nothing if it had none
abbrev pub TellsOutcome : Result Ended RunFault → List ℕ → Type 0
TellsOutcome (Ok ended) text = text ≡ []
TellsOutcome (Err fault) text = TellsFault fault text

-- what is told of a file that can't be opened: its name and the reason
abbrev pub unopened_told : List ℕ → List ℕ → List ℕ
unopened_told name reason = failed_told (codes "squall: cannot open ") name reason

-- what is told of a file of which a read failed: its name and the reason
abbrev pub unread_told : List ℕ → List ℕ → List ℕ
unread_told name reason = failed_told (codes "squall: cannot read ") name reason

-- the text is what is told of a file that can't be opened or read, with some reason
abbrev pub TellsFile : List ℕ → List ℕ → Type 0
TellsFile name text = (reason : List ℕ) × ((text ≡ unopened_told name reason) ⊎ (text ≡ unread_told name reason))

-- what is told of a word that is refused, and why
abbrev pub word_told : List ℕ → List ℕ → List ℕ
word_told word why = line_told (codes "squall: refused ") word (codes " ") why

-- what is told of words that are to be a report and are none: the word that is at fault, and why
abbrev pub no_report_told : BadWord → List ℕ
no_report_told bad = word_told bad.0 (advice bad.1)

-- what is told of a file that is standard input, which is read as it comes
abbrev pub input_taken_told : List ℕ
input_taken_told = codes "squall: standard input is read as it comes, so that no file can be -\n"

-- what is told of an answer that refuses what was given: its text after the program's name, or nothing if it has none
abbrev pub refusal_told : List ℕ → List ℕ
refusal_told [] = []
refusal_told (x ∷ text) = codes "squall: " ++ (x ∷ text)

-- ---- what was told

-- no file is meant
abbrev pub IsNoName : List ℕ → Type 0
IsNoName name = ⊥

-- The text goes with the status: it is that of an outcome with this status; or, with status 3, that of a file that can't be opened
-- or read and has one of these names; or, with status 2, it says what is wrong with the words; or, with status 5, it is empty.
abbrev pub IsTold : (List ℕ → Type 0) → ℕ → List ℕ → Type 0
IsTold named status text =
    ((outcome : Result Ended RunFault) × (status ≡ status_of outcome) × TellsOutcome outcome text)
    ⊎ (((name : List ℕ) × named name × (status ≡ 3) × TellsFile name text)
    ⊎ (((status ≡ 2) × StartsWith text (codes "squall: ")) ⊎ ((status ≡ 5) × (text ≡ []))))
