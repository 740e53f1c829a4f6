-- What standard error is told, and of which files (this project's command line).
use Rattle.std.specs.Prelude.{◌≡◌, ◌≢◌, ◌⊎◌, ℕ, List, Bool, Contains}
use Rattle.squall_cli_device.specs.States.{SinkState}
use Rattle.squall_cli_lines.specs.Heeding.{Says}
use Rattle.squall_cli_command.specs.Line.{Job, check, course, run, race, ask, stream, Asks}
use Rattle.squall_cli_ask.specs.Reads.{Bytes}
use Rattle.squall_cli_ask.specs.Told.{IsNoName, IsTold}
use Rattle.squall_cli_ask.specs.Asked.{files_of, IsToldOf}
use Rattle.squall_cli_run.specs.Tasks.{DrawsByWords}

-- the name is that of a file of the task
abbrev pub IsNamed : Job → List ℕ → Type 0
IsNamed (check form plan) name = name ≡ plan
IsNamed (course form old new) name = (name ≡ old) ⊎ (name ≡ new)
IsNamed (run file) name = name ≡ file
IsNamed (race file) name = name ≡ file
IsNamed (ask inquiry words files) name = Contains (files_of inquiry words files) name
IsNamed (stream kind files) name = Contains files name

-- what is told of a task that ended with that status: of files and words a refusal, or what goes with the status; of all other tasks the latter
abbrev pub IsToldFor : Job → Bytes → Bytes → ℕ → List ℕ → Type 0
IsToldFor (check form plan) before after status text = IsTold (IsNamed (check form plan)) status text
IsToldFor (course form old new) before after status text = IsTold (IsNamed (course form old new)) status text
IsToldFor (run file) before after status text = IsTold (IsNamed (run file)) status text
IsToldFor (race file) before after status text = IsTold (IsNamed (race file)) status text
IsToldFor (ask inquiry words files) before after status text = IsToldOf inquiry words before after (files_of inquiry words files) status text
IsToldFor (stream kind files) before after status text = IsTold (IsNamed (stream kind files)) status text

-- the same by the words: of the task that they ask for; or, with any status but 1, what goes with the status and names no file
abbrev pub IsToldByWords : List (List ℕ) → Bytes → Bytes → ℕ → List ℕ → Type 0
IsToldByWords words before after status text =
    ((job : Job) × Asks words job × IsToldFor job before after status text) ⊎ ((status ≢ 1) × IsTold IsNoName status text)

-- What standard error got by the words, if no write to it failed: the bars of a course that is watched, if it is a terminal, and then what is told.
abbrev pub ShowsAndTells : List (List ℕ) → Bool → Bytes → Bytes → ℕ → SinkState → SinkState → Type 0
ShowsAndTells words terminal before after status err err' = (drawn : SinkState) × DrawsByWords words terminal before after status err drawn
    × (text : List ℕ) × IsToldByWords words before after status text × Says drawn err' text
