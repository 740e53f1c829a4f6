-- What was read of texts. Only contracts of private functions use these definitions.
use Rattle.std.specs.Prelude.{◌≡◌, ℕ, List, length, map, Result, Ok, Err}
use Rattle.squall_protocol.specs.declared.event.Node.{Node}
use Rattle.squall_judge.specs.declared.judgment.Judgment.{Judgment}
use Rattle.squall_judge.specs.declared.judgment.Judgment.TheVariants.{Accepted, Refused}
use Rattle.squall_cli_audit.specs.declared.text.ReadLog.{ReadLog}
use Rattle.squall_cli_audit.specs.declared.files.ReadFiles.{ReadFiles}
use Rattle.squall_cli_audit.specs.declared.files.BadFile.{BadFile}
use Rattle.squall_cli_audit.specs.LogFiles.{FileValue, AreLogsOf, IsFirstBadFile}
use Rattle.squall_cli_audit.specs.LogTexts.{Says, AreLog, IsFirstBad, AreBad}

-- what was read are the entries of the lines, or the number of the first bad one
abbrev pub AreEntries : Node → List (ℕ × List ℕ) → Result ReadLog ℕ → Type 0
AreEntries m lines (Ok read) = (read.log.node ≡ m) × Says m lines read.log.entries.items read.lines.items
AreEntries m lines (Err n) = IsFirstBad m lines n

-- what was read is the log of the lines, or the number of the first bad one
abbrev pub IsRead : List (ℕ × List ℕ) → Result ReadLog ℕ → Type 0
IsRead lines (Ok read) = AreLog lines read.log read.lines.items
IsRead lines (Err n) = AreBad lines n

-- what was read are the logs of the files, or the first bad file
abbrev pub AreRead : List FileValue → Result ReadFiles BadFile → Type 0
AreRead files (Ok read) = AreLogsOf files read.logs.items (map (λ ns. ns.items) read.lines.items)
AreRead files (Err bad) = IsFirstBadFile files bad.index bad.line

-- a judgment that refuses says of so many logs how many entries were taken, and why others are left
abbrev pub IsOfLogs : Judgment → ℕ → Type 0
IsOfLogs Accepted n = Unit {0}
IsOfLogs (Refused taken causes) n = (length taken.items ≡ n) × (length causes.items ≡ n)
