-- What is answered to what is asked of files and words (this project's command line).
use Rattle.std.specs.Prelude.{◌≡◌, ◌⊎◌, ℕ, ◌<◌, List, [], Bool, true, false, ◌==◌, ◌&&◌, MatchBool, Contains, map, string_bytes, if◌then◌else◌}
use Rattle.std.specs.Io.KnownBytes.{Appends, Consumes}
use Rattle.squall_cli_lines.specs.Script.{IsPrefix}
use Rattle.squall_cli_command.specs.declared.inquiry.Ask.{Ask}
use Rattle.squall_cli_command.specs.declared.inquiry.Inquiry.{Inquiry}
use Rattle.squall_cli_command.specs.declared.inquiry.Inquiry.TheVariants as inquiry
use Rattle.squall_cli_boards.specs.Files.{FileValue}
use Rattle.squall_cli_boards.specs.Answers.{AnswerValue}
use Rattle.squall_cli_ask.specs.Audited.{IsAnswerFor}
use Rattle.squall_cli_boards.specs.ReportWords.{is_report, files_of_report}
use Rattle.squall_cli_ask.specs.Reads.{Bytes}
use Rattle.squall_cli_ask.specs.Told.{IsUnread, refusal_told, IsNoName, IsTold}
use Rattle.squall_cli_ask.specs.Gathered.{AreRead, TakesSome}

-- ---- the words

-- what is asked can be: the words of a report have to be one
abbrev pub can_be : Inquiry → List (List ℕ) → Bool
can_be inquiry.Report words = is_report words
can_be (inquiry.Board form) words = true
can_be (inquiry.Status how) words = true
can_be inquiry.Picture words = true
can_be inquiry.Routes words = true
can_be inquiry.NamedRoutes words = true
can_be (inquiry.Legs form) words = true
can_be inquiry.Merge words = true
can_be inquiry.Beyond words = true
can_be inquiry.Cover words = true
can_be inquiry.Digest words = true
can_be inquiry.Repair words = true
can_be inquiry.Plan words = true
can_be inquiry.Split words = true
can_be inquiry.Diff words = true
can_be inquiry.Names words = true
can_be inquiry.Audit words = true

-- the names of the files that are read for it, in their order: those of a report are among its words
abbrev pub files_of : Inquiry → List (List ℕ) → List (List ℕ) → List (List ℕ)
files_of inquiry.Report words files = files_of_report words
files_of (inquiry.Board form) words files = files
files_of (inquiry.Status how) words files = files
files_of inquiry.Picture words files = files
files_of inquiry.Routes words files = files
files_of inquiry.NamedRoutes words files = files
files_of (inquiry.Legs form) words files = files
files_of inquiry.Merge words files = files
files_of inquiry.Beyond words files = files
files_of inquiry.Cover words files = files
files_of inquiry.Digest words files = files
files_of inquiry.Repair words files = files
files_of inquiry.Plan words files = files
files_of inquiry.Split words files = files
files_of inquiry.Diff words files = files
files_of inquiry.Names words files = files
files_of inquiry.Audit words files = files

-- the same of what was asked for
abbrev pub words_asked : Ask → List (List ℕ)
words_asked asked = map string_bytes asked.words.items

abbrev pub files_asked : Ask → List (List ℕ)
files_asked asked = files_of asked.inquiry (words_asked asked) (map string_bytes asked.files.items)

-- ---- what is written

-- the command writes frames, a picture, a plan or words of one, so that its refusals go to standard error, where no reader takes them for these
abbrev pub refuses_aside : Inquiry → Bool
refuses_aside inquiry.Report = true
refuses_aside (inquiry.Board form) = false
refuses_aside (inquiry.Status how) = false
refuses_aside inquiry.Picture = true
refuses_aside inquiry.Routes = false
refuses_aside inquiry.NamedRoutes = false
refuses_aside (inquiry.Legs form) = false
refuses_aside inquiry.Merge = true
refuses_aside inquiry.Beyond = true
refuses_aside inquiry.Cover = true
refuses_aside inquiry.Digest = true
refuses_aside inquiry.Repair = true
refuses_aside inquiry.Plan = true
refuses_aside inquiry.Split = true
refuses_aside inquiry.Diff = true
refuses_aside inquiry.Names = false
refuses_aside inquiry.Audit = false

-- the answer is a refusal that goes to standard error
abbrev pub is_aside : Inquiry → AnswerValue → Bool
is_aside asked a = refuses_aside asked && a.refused

-- what of the answer goes to standard output: all of it, or nothing if it goes to standard error
abbrev pub output_of : Inquiry → AnswerValue → List ℕ
output_of asked a = if is_aside asked a then [] else a.text

-- the exit status is to say whether a course is complete
abbrev pub is_judged : Inquiry → Bool
is_judged inquiry.Report = false
is_judged (inquiry.Board form) = false
is_judged (inquiry.Status how) = how.is_judged
is_judged inquiry.Picture = false
is_judged inquiry.Routes = false
is_judged inquiry.NamedRoutes = false
is_judged (inquiry.Legs form) = false
is_judged inquiry.Merge = false
is_judged inquiry.Beyond = false
is_judged inquiry.Cover = false
is_judged inquiry.Digest = false
is_judged inquiry.Repair = false
is_judged inquiry.Plan = false
is_judged inquiry.Split = false
is_judged inquiry.Diff = false
is_judged inquiry.Names = false
is_judged inquiry.Audit = false

-- the status with which an answer comes that is given whole: 1 if it refuses, and 5 if it is to say that a course is not complete
abbrev pub status_of_answer : Inquiry → AnswerValue → ℕ
status_of_answer asked a = if a.refused then 1 else (if is_judged asked && a.incomplete then 5 else 0)

-- the status of an answer that is given whole
abbrev pub GivesAnswer : ℕ → Type 0
GivesAnswer status = (status < 2) ⊎ (status ≡ 5)

-- What was written of the answer to an inquiry with some words about these files, by the status: all of its output; after a write fault a prefix;
-- and after a failed allocation, which comes before the answer is ready, nothing.
abbrev pub IsAnswered : ℕ → Inquiry → List (List ℕ) → List FileValue → List ℕ → Type 0
IsAnswered status asked words files written =
    ((a : AnswerValue) × IsAnswerFor asked words files a × (status ≡ status_of_answer asked a) × (written ≡ output_of asked a))
    ⊎ (((a : AnswerValue) × IsAnswerFor asked words files a × (status ≡ 3) × IsPrefix written (output_of asked a)) ⊎ ((status ≡ 4) × (written ≡ [])))

-- ---- what is told

-- the answer about these files is a refusal, and its text is told
abbrev pub TellsRefusal : Inquiry → List (List ℕ) → List FileValue → List ℕ → Type 0
TellsRefusal asked words files text = (a : AnswerValue) × IsAnswerFor asked words files a × (a.refused ≡ true) × (text ≡ refusal_told a.text)

-- a refusal that goes to standard error comes with this status
abbrev pub comes_aside : Inquiry → ℕ → Bool
comes_aside asked status = refuses_aside asked && (status == 1)

-- what was told of the answer about these files: its refusal, if that goes to standard error, or else what goes with the status
abbrev pub IsAnswerTold : Inquiry → List (List ℕ) → List FileValue → ℕ → List ℕ → Type 0
IsAnswerTold asked words files status text = MatchBool (comes_aside asked status) (TellsRefusal asked words files text) (IsTold IsNoName status text)

-- ---- what is done

-- the files of these names were read, and the inquiry with these words about them is answered as far as the status says
abbrev pub AnswersRead : Bytes → Bytes → Inquiry → List (List ℕ) → List (List ℕ) → ℕ → Type 0
AnswersRead before after asked words names status =
    (files : List FileValue) × (written : List ℕ) × Appends before.output after.output written
    × AreRead before.files before.input after.input names files × IsAnswered status asked words files written

-- something stopped the task before it wrote anything
abbrev pub AnswersNothing : Bytes → Bytes → ℕ → Type 0
AnswersNothing before after status = IsUnread status × Appends before.output after.output [] × TakesSome before.input after.input

-- nothing is read or written, and the status says that the words are bad, or that an allocation failed
abbrev pub AnswersNone : Bytes → Bytes → ℕ → Type 0
AnswersNone before after status = ((status ≡ 2) ⊎ (status ≡ 4)) × Appends before.output after.output [] × Consumes before.input after.input []

-- what was told for an inquiry about files of these names: of those that were read its refusal, if that goes to standard error, or else what
-- goes with the status
abbrev pub IsToldOf : Inquiry → List (List ℕ) → Bytes → Bytes → List (List ℕ) → ℕ → List ℕ → Type 0
IsToldOf asked words before after names status text = MatchBool (comes_aside asked status)
    ((files : List FileValue) × AreRead before.files before.input after.input names files × TellsRefusal asked words files text)
    (IsTold (Contains names) status text)

-- What is done for an inquiry. If it can be, it is answered about the files of these names, or something stopped that. If it cannot,
-- nothing is read or written, and the status says so unless an allocation failed.
abbrev pub IsInquired : Inquiry → List (List ℕ) → Bytes → Bytes → List (List ℕ) → ℕ → Type 0
IsInquired asked words before after names status = MatchBool (can_be asked words)
    (AnswersRead before after asked words names status ⊎ AnswersNothing before after status) (AnswersNone before after status)
