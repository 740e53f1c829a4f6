-- What an audit shows, as text (this project's command line).
use Rattle.std.specs.Prelude.{ℕ, ◌+◌, List, [], ◌∷◌, ◌++◌, length, Option, None, Some, codes}
use Rattle.std.specs.List.{slice_get}
use Rattle.std.specs.Fmt.{decimal}
use Rattle.squall_judge.specs.declared.log.Log.{Log}
use Rattle.squall_judge.specs.declared.judgment.Cause.{Cause}
use Rattle.squall_judge.specs.declared.judgment.Cause.TheVariants.{Answer as AnswersElse, NoSuch, NotGiven, NotReported, Running}
use Rattle.squall_judge.specs.declared.judgment.JudgeFault.{JudgeFault}
use Rattle.squall_judge.specs.declared.judgment.JudgeFault.TheVariants.{TwoLogs, TooManyRouters, NoMemory}
use Rattle.squall_cli_audit.specs.LogFiles.{FileValue}

-- a word, the name of a file, and what follows
abbrev pub of_file : List ℕ → List ℕ → List ℕ → List ℕ
of_file word name text = word ++ (name ++ (codes " " ++ (text ++ codes "\n")))

-- bad NAME LINE: the line of that number is the first for which the file's text is no log
abbrev pub bad_text : List ℕ → ℕ → List ℕ
bad_text name line = of_file (codes "bad ") name (decimal line)

-- the cause in a word
abbrev pub word_of_cause : Cause → List ℕ
word_of_cause AnswersElse = codes "Answer"
word_of_cause NoSuch = codes "NoSuch"
word_of_cause NotGiven = codes "NotGiven"
word_of_cause NotReported = codes "NotReported"
word_of_cause Running = codes "Running"

abbrev pub stops_at : List ℕ → Option ℕ → Option Cause → List ℕ
stops_at name None cause = []
stops_at name (Some line) None = of_file (codes "refused ") name (decimal line)
stops_at name (Some line) (Some cause) = of_file (codes "refused ") name (decimal line ++ (codes " " ++ word_of_cause cause))

-- refused NAME LINE CAUSE: so many entries were taken of the lines of these numbers, the next one is in that line, and that is why it is
-- left; nothing if none is left
abbrev pub refused_text : List ℕ → List ℕ → ℕ → Option Cause → List ℕ
refused_text name lines taken cause = stops_at name (slice_get lines taken) cause

-- the same for each file, one after another
abbrev pub refused_lines : List FileValue → List (List ℕ) → List ℕ → List (Option Cause) → List ℕ
refused_lines (f ∷ fs) (ns ∷ nss) (t ∷ ts) (c ∷ cs) = refused_text f.name ns t c ++ refused_lines fs nss ts cs
refused_lines [] nss ts cs = []
refused_lines (f ∷ fs) [] ts cs = []
refused_lines (f ∷ fs) (ns ∷ nss) [] cs = []
refused_lines (f ∷ fs) (ns ∷ nss) (t ∷ ts) [] = []

-- how many entries the logs have
abbrev pub entry_count : List Log → ℕ
entry_count [] = 0
entry_count (log ∷ logs) = length log.entries.items + entry_count logs

-- accepted N lines of M logs
abbrev pub accepted_text : List Log → List ℕ
accepted_text logs = codes "accepted " ++ (decimal (entry_count logs) ++ (codes " lines of " ++ (decimal (length logs) ++ codes " logs\n")))

abbrev pub word_of_fault : JudgeFault → List ℕ
word_of_fault TwoLogs = codes "TwoLogs"
word_of_fault TooManyRouters = codes "TooManyRouters"
word_of_fault NoMemory = codes "NoMemory"

-- refused NAME WHY: the logs are not judged, for what the file's log says
abbrev pub fault_text : List ℕ → JudgeFault → List ℕ
fault_text name fault = of_file (codes "refused ") name (word_of_fault fault)
