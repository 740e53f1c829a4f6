-- What the program does for a task, and its status (this project's command line).
use Rattle.std.specs.Prelude.{◌≡◌, ◌⊎◌, ℕ, ◌<◌, List, [], Bool, true, false, ◌&&◌, ◌||◌, Result, MatchBool}
use Rattle.std.specs.List.{list_all, list_any}
use Rattle.std.specs.Io.{StartsWith}
use Rattle.std.specs.Io.KnownBytes.{Appends, Consumes}
use Rattle.squall_cli_device.specs.States.{SourceState, SinkState, GaveBytes, TookBytes}
use Rattle.squall_cli_lines.specs.Lines.{whole_lines}
use Rattle.squall_cli_lines.specs.Script.{HasNoBadLine, IsOutcome, IsPrompt}
use Rattle.squall_cli_lines.specs.declared.Ended.{Ended}
use Rattle.squall_cli_lines.specs.declared.RunFault.{RunFault}
use Rattle.squall_cli_command.specs.declared.form.Form.{Form}
use Rattle.squall_cli_command.specs.Line.{Job, check, course, run, race, ask, stream, Asks, IsFaulty}
use Rattle.squall_cli_ask.specs.Files.{is_input}
use Rattle.squall_cli_ask.specs.Reads.{Bytes, ReadsFrom, ReadsAll}
use Rattle.squall_cli_ask.specs.Told.{status_of}
use Rattle.squall_cli_ask.specs.Asked.{can_be, files_of, GivesAnswer, IsInquired}
use Rattle.squall_cli_ask.specs.Followed.{status_read, IsFollowed, FollowsPromptly, DrawsStream}
use Rattle.squall_cli_scenario.specs.Text.{IsScript}
use Rattle.squall_cli_run.specs.Output.{check_in, course_in, IsWritten}
use Rattle.squall_cli_run.specs.Races.{IsRaced}

-- ---- what is done

-- a scenario is run: what was read is answered as far as the outcome with that status says, and it is fine only once all is read
abbrev pub RunsWith : Bytes → Bytes → List ℕ → ℕ → Type 0
RunsWith before after name status =
    (outcome : Result Ended RunFault) × (read : List ℕ) × (written : List ℕ)
    × (status ≡ status_of outcome) × Appends before.output after.output written × IsOutcome outcome IsScript read written
    × ReadsFrom before after name read × (status ≡ 0 → ReadsAll before after name read)

-- a plan is checked: the check of what was read is written in the form as far as the outcome with that status says, and it is judged only
-- once all is read
abbrev pub ChecksWith : Form → Bytes → Bytes → List ℕ → ℕ → Type 0
ChecksWith form before after name status =
    (outcome : Result Ended RunFault) × (read : List ℕ) × (written : List ℕ)
    × (status ≡ status_of outcome) × Appends before.output after.output written × IsWritten outcome (check_in form read) written
    × ReadsFrom before after name read × (status < 2 → ReadsAll before after name read)

-- a race is run: what it shows of what was read is written as far as the outcome with that status says, and it is run or
-- refused only once all is read
abbrev pub RacesWith : Bytes → Bytes → List ℕ → ℕ → Type 0
RacesWith before after name status =
    (outcome : Result Ended RunFault) × (read : List ℕ) × (written : List ℕ)
    × (status ≡ status_of outcome) × Appends before.output after.output written × IsRaced outcome read written
    × ReadsFrom before after name read × (status < 2 → ReadsAll before after name read)

-- the second text of a course: where both names are that of standard input it is empty
abbrev pub ReadsSecond : Bytes → Bytes → List ℕ → List ℕ → List ℕ → ℕ → Type 0
ReadsSecond before after old new read status =
    MatchBool (is_input old && is_input new) (read ≡ []) (ReadsFrom before after new read × (status < 2 → ReadsAll before after new read))

-- a course is shown: the course between the two texts that were read is written as far as the outcome with that status says, and
-- they are judged only once all of both is read
abbrev pub ShowsCourseWith : Form → Bytes → Bytes → List ℕ → List ℕ → ℕ → Type 0
ShowsCourseWith form before after old new status =
    (outcome : Result Ended RunFault) × (first : List ℕ) × (second : List ℕ) × (written : List ℕ)
    × (status ≡ status_of outcome) × Appends before.output after.output written × IsWritten outcome (course_in form first second) written
    × ReadsFrom before after old first × (status < 2 → ReadsAll before after old first) × ReadsSecond before after old new second status

-- the task that the words ask for is done
abbrev pub IsDone : Bytes → Bytes → Job → ℕ → Type 0
IsDone before after (check form name) status = ChecksWith form before after name status
IsDone before after (course form old new) status = ShowsCourseWith form before after old new status
IsDone before after (run name) status = RunsWith before after name status
IsDone before after (race name) status = RacesWith before after name status
IsDone before after (ask inquiry words files) status = IsInquired inquiry words before after (files_of inquiry words files) status
IsDone before after (stream kind files) status = IsFollowed kind before after files status

-- ---- promptness

-- standard input is run: the lines that came before the last read of it were answered before that read
abbrev pub RunsPromptly : Bytes → Bytes → Type 0
RunsPromptly before after =
    (read : List ℕ) × (written : List ℕ) × Consumes before.input after.input read × Appends before.output after.output written × IsPrompt IsScript read written

-- A task that answers standard input as it comes does so: a scenario, keys or the frames of boards. Of any other task this says nothing.
abbrev pub AnswersPromptly : Bytes → Bytes → Job → Type 0
AnswersPromptly before after (check form name) = Unit {0}
AnswersPromptly before after (course form old new) = Unit {0}
AnswersPromptly before after (run name) = is_input name ≡ true → RunsPromptly before after
AnswersPromptly before after (race name) = Unit {0}
AnswersPromptly before after (ask inquiry words files) = Unit {0}
AnswersPromptly before after (stream kind files) = FollowsPromptly kind before after files

-- a scenario is read no further than to the read with a bad line: the end was found only if that line came without its LF
abbrev pub StopsAtBadLine : SourceState → SourceState → Type 0
StopsAtBadLine old new = (new.ends ≡ old.ends) ⊎ ((read : List ℕ) × GaveBytes old new read × HasNoBadLine IsScript (whole_lines read))

-- If the task runs the scenario of standard input, no read follows a bad line. Of any other task this says nothing.
abbrev pub ReadsNoFurther : SourceState → SourceState → Job → Type 0
ReadsNoFurther old new (check form name) = Unit {0}
ReadsNoFurther old new (course form before after) = Unit {0}
ReadsNoFurther old new (run name) = is_input name ≡ true → StopsAtBadLine old new
ReadsNoFurther old new (race name) = Unit {0}
ReadsNoFurther old new (ask inquiry words files) = Unit {0}
ReadsNoFurther old new (stream kind files) = Unit {0}

-- ---- what is drawn

-- what is drawn on standard error for a task: bars if it watches a course on a terminal, and otherwise nothing
abbrev pub DrawsFor : Job → Bool → Bytes → Bytes → ℕ → SinkState → SinkState → Type 0
DrawsFor (check form name) terminal before after status err err' = err' ≡ err
DrawsFor (course form old new) terminal before after status err err' = err' ≡ err
DrawsFor (run name) terminal before after status err err' = err' ≡ err
DrawsFor (race name) terminal before after status err err' = err' ≡ err
DrawsFor (ask inquiry words files) terminal before after status err err' = err' ≡ err
DrawsFor (stream kind files) terminal before after status err err' = DrawsStream kind terminal before after files status err err'

-- the same by the words: nothing is drawn if they ask for no task
abbrev pub DrawsByWords : List (List ℕ) → Bool → Bytes → Bytes → ℕ → SinkState → SinkState → Type 0
DrawsByWords words terminal before after status err err' =
    ((job : Job) → Asks words job → DrawsFor job terminal before after status err err') × ((err' ≡ err) ⊎ ((job : Job) × Asks words job))

-- ---- help

-- a text that begins with the title, the line with the program's name and version, is written, as far as the outcome with that status says
abbrev pub ShowsHelp : List ℕ → SinkState → SinkState → ℕ → Type 0
ShowsHelp title output output' status =
    (outcome : Result Ended RunFault) × (text : List ℕ) × (written : List ℕ)
    × (status ≡ status_of outcome) × StartsWith text title × TookBytes output output' written
    × IsWritten outcome (record { text = text; refused = false }) written

-- ---- when

-- the task reads standard input, and ended so that it has read it to its end
abbrev pub EndsInput : Job → ℕ → Type 0
EndsInput (check form name) status = (is_input name ≡ true) × (status < 2)
EndsInput (course form old new) status = ((is_input old || is_input new) ≡ true) × (status < 2)
EndsInput (run name) status = (is_input name ≡ true) × (status ≡ 0)
EndsInput (race name) status = (is_input name ≡ true) × (status < 2)
EndsInput (ask inquiry words files) status = (list_any is_input (files_of inquiry words files) ≡ true) × GivesAnswer status
EndsInput (stream kind files) status = status ≡ status_read kind

-- the task reads a file that is not standard input
abbrev pub NamesFile : Job → Type 0
NamesFile (check form name) = is_input name ≡ false
NamesFile (course form old new) = (is_input old && is_input new) ≡ false
NamesFile (run name) = is_input name ≡ false
NamesFile (race name) = is_input name ≡ false
NamesFile (ask inquiry words files) = list_all is_input (files_of inquiry words files) ≡ false
NamesFile (stream kind files) = list_all is_input files ≡ false

-- the task has the words of a report and they are none, or it reads standard input as it comes and one of its files is standard
-- input too
abbrev pub CannotBe : Job → Type 0
CannotBe (check form name) = ⊥
CannotBe (course form old new) = ⊥
CannotBe (run name) = ⊥
CannotBe (race name) = ⊥
CannotBe (ask inquiry words files) = can_be inquiry words ≡ false
CannotBe (stream kind files) = list_any is_input files ≡ true

-- the words are bad: they have a fault, or they ask for a task that cannot be
abbrev pub AreBad : List (List ℕ) → Type 0
AreBad words = IsFaulty words ⊎ ((job : Job) × Asks words job × CannotBe job)
