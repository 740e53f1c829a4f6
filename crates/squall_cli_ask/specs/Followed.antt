-- What is answered to standard input as it comes (this project's command line).
use Rattle.std.specs.Prelude.{◌≡◌, ◌⊎◌, ◌≤◌, ℕ, List, [], Bool, Option, Result, MatchBool, map, string_bytes}
use Rattle.std.specs.List.{list_any}
use Rattle.std.specs.Io.KnownBytes.{Appends, Consumes, IsAtEnd}
use Rattle.squall_cli_device.specs.States.{SinkState}
use Rattle.squall_cli_lines.specs.declared.Ended.{Ended}
use Rattle.squall_cli_lines.specs.declared.RunFault.{RunFault}
use Rattle.squall_cli_command.specs.declared.stream.Stream.{Stream}
use Rattle.squall_cli_command.specs.declared.stream.Stream.TheVariants.{Keys, Frames}
use Rattle.squall_cli_command.specs.declared.stream.Follow.{Follow}
use Rattle.squall_cli_boards.specs.Files.{FileValue}
use Rattle.squall_cli_watch.specs.declared.ending.WatchEnd.{WatchEnd}
use Rattle.squall_cli_ask.specs.Written.{AnswersKeys, IsPromptFor}
use Rattle.squall_cli_ask.specs.Watching.{WatchesFiles, WatchesPromptly, ShowsBarsOfFiles}
use Rattle.squall_cli_ask.specs.Files.{is_input}
use Rattle.squall_cli_ask.specs.Reads.{Bytes}
use Rattle.squall_cli_ask.specs.Told.{status_of, status_at_end, status_of_watch}
use Rattle.squall_cli_ask.specs.Gathered.{AreRead}
use Rattle.squall_cli_ask.specs.Asked.{AnswersNothing, AnswersNone}

-- the names of the files of a stream
abbrev pub files_followed : Follow → List (List ℕ)
files_followed f = map string_bytes f.files.items

-- the status of a stream of which all is read and answered: that of a watch that ended so, if it is one, or else 0
abbrev pub status_read : Stream → ℕ
status_read Keys = 0
status_read (Frames how) = status_at_end how

-- what was written for the bytes that were read of standard input after these files, as far as an outcome with that status says
abbrev pub IsStreamed : Stream → ℕ → List FileValue → List ℕ → List ℕ → Type 0
IsStreamed Keys status files read written = (outcome : Result Ended RunFault) × (status ≡ status_of outcome) × AnswersKeys outcome files read written
IsStreamed (Frames how) status files read written =
    (outcome : Result WatchEnd RunFault) × (status ≡ status_of_watch how outcome) × WatchesFiles how outcome files read written

-- the files of these names were read, and then what was read of standard input is answered as far as the status says; with the status
-- of a stream of which all is read, all of it was
abbrev pub AnswersStream : Stream → Bytes → Bytes → List (List ℕ) → ℕ → Type 0
AnswersStream stream before after names status =
    (files : List FileValue) × (read : List ℕ) × (written : List ℕ)
    × Appends before.output after.output written × Consumes before.input after.input read
    × AreRead before.files before.input before.input names files × IsStreamed stream status files read written
    × (status ≡ status_read stream → IsAtEnd after.input)

-- What is done for a stream. If one of its files is standard input too, then nothing is read or written, and the status says so
-- unless an allocation failed.
abbrev pub IsFollowed : Stream → Bytes → Bytes → List (List ℕ) → ℕ → Type 0
IsFollowed stream before after names status = MatchBool (list_any is_input names)
    (AnswersNone before after status) (AnswersStream stream before after names status ⊎ AnswersNothing before after status)

-- ---- promptness

-- after these files, the lines or frames that came before the last read of standard input were answered before it
abbrev pub IsPromptTo : Stream → List FileValue → List ℕ → List ℕ → Type 0
IsPromptTo Keys files read written = IsPromptFor files read written
IsPromptTo (Frames how) files read written = WatchesPromptly how files read written

-- Standard input is answered as it comes. The files of these names were read, and the lines or frames that came before the last read of
-- standard input were answered before it. Or nothing is read of standard input.
abbrev pub FollowsPromptly : Stream → Bytes → Bytes → List (List ℕ) → Type 0
FollowsPromptly stream before after names =
    ((files : List FileValue) × (read : List ℕ) × (written : List ℕ)
    × Consumes before.input after.input read × Appends before.output after.output written
    × AreRead before.files before.input before.input names files × IsPromptTo stream files read written)
    ⊎ Consumes before.input after.input []

-- ---- bars

-- what was drawn on standard error after these files, as far as an outcome with that status says: bars of a course that is watched, and
-- otherwise nothing
abbrev pub IsDrawnFor : Stream → Bool → ℕ → List FileValue → Option (List ℕ) → Option (List ℕ) → SinkState → SinkState → Type 0
IsDrawnFor Keys terminal status files before after err err' = err' ≡ err
IsDrawnFor (Frames how) terminal status files before after err err' =
    (outcome : Result WatchEnd RunFault) × (status ≡ status_of_watch how outcome) × ShowsBarsOfFiles terminal how files outcome before after err err'

-- the same by the names of the files; without the files nothing is drawn
abbrev pub DrawsStream : Stream → Bool → Bytes → Bytes → List (List ℕ) → ℕ → SinkState → SinkState → Type 0
DrawsStream stream terminal before after names status err err' =
    ((files : List FileValue) × AreRead before.files before.input before.input names files
    × IsDrawnFor stream terminal status files before.input after.input err err')
    ⊎ ((2 ≤ status) × (err' ≡ err))
