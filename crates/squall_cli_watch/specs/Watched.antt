-- What is written while a course is watched (this project's command line).
use Rattle.std.specs.Prelude.{◌≡◌, ◌⊎◌, ◌≤◌, ℕ, List, [], ◌∷◌, ◌++◌, length, Bool, true, false, ◌&&◌, Option, None, Some, Result, Ok, Err, codes}
use Rattle.squall_plan.specs.declared.range.PlanRange.{PlanRange}
use Rattle.squall_course.specs.Change.{Change}
use Rattle.squall_board.specs.Boards.{BoardValue, empty_board, board_join, says}
use Rattle.squall_board.specs.CourseRoute.{course_of_board}
use Rattle.squall_status.specs.declared.text.Shown.TheVariants.{EachMove}
use Rattle.squall_cli_command.specs.declared.form.Form.{Form}
use Rattle.squall_cli_command.specs.declared.form.Form.TheVariants.{Lines, Json}
use Rattle.squall_cli_command.specs.declared.stream.WatchAsk.{WatchAsk}
use Rattle.squall_cli_json.specs.Values.{json_line, json_of_refusal}
use Rattle.squall_status.specs.Shares.{are_over}
use Rattle.squall_status.specs.Summary.{StatusValue, IsStatusOf}
use Rattle.squall_wire.specs.declared.fault.WireFault.{WireFault}
use Rattle.squall_wire.specs.declared.fault.WireFault.TheVariants.{Kind}
use Rattle.squall_wire.specs.FaultText.{text_of_fault}
use Rattle.squall_wire.specs.Messages.{Body, lists, rows}
use Rattle.squall_wire.specs.BoardOf.{board_of_lists}
use Rattle.squall_wire.specs.Heard.{heard_of}
use Rattle.squall_cli_lines.specs.Script.{IsPrefix, block_size}
use Rattle.squall_cli_lines.specs.declared.RunFault.{RunFault}
use Rattle.squall_cli_lines.specs.declared.RunFault.TheVariants.{Read, Write, NoMemory}
use Rattle.squall_cli_boards.specs.Files.{fault_after}
use Rattle.squall_cli_boards.specs.Courses.{status_in}
use Rattle.squall_cli_boards.specs.Known.{first_course}
use Rattle.squall_cli_watch.specs.Changed.{change_in}
use Rattle.squall_cli_watch.specs.declared.ending.WatchEnd.{WatchEnd}
use Rattle.squall_cli_watch.specs.declared.ending.WatchEnd.TheVariants.{Fine}
use Rattle.squall_cli_watch.specs.Scripts.{WatchScript, silence, last_word, completion, after, text_of}

-- ---- the status

-- the status is that of the newest course of the board after the first
abbrev pub IsNewestStatus : Change → BoardValue → StatusValue → Type 0
IsNewestStatus first b status = IsStatusOf (course_of_board first b) (says b) status

-- the status as the watch writes it
abbrev pub status_shown : WatchAsk → StatusValue → List ℕ
status_shown how status = status_in how.form EachMove status

-- the watch ends with this status: it is to end once the course is complete, and each move is
abbrev pub ends_with : WatchAsk → StatusValue → Bool
ends_with how status = how.is_until_complete && are_over status.moves

-- ---- frames

-- what refuses the input for a fault, by a line or as JSON, as a file named `-` is refused
abbrev pub refused_frame : Form → WireFault → List ℕ
refused_frame Lines fault = codes "refused - " ++ (text_of_fault fault ++ codes "\n")
refused_frame Json fault = json_line (json_of_refusal (codes "-") (text_of_fault fault))

-- what is answered after the frames: nothing, or that their input has a fault
abbrev pub last_answer : Form → Option WireFault → WatchScript
last_answer form None = silence
last_answer form (Some fault) = last_word (refused_frame form fault)

-- The script answers what frames say that such a fault follows. Before them a board was known, and a status text was answered. A board
-- is joined in, and its answer is the lines of the status that change, or the JSON object if it changes. If the watch is to end with that
-- status, it ends the answers. A digest is a frame of another kind, and ends the answers.
abbrev pub AnswersFrames : WatchAsk → Change → BoardValue → List ℕ → List Body → Option WireFault → WatchScript → Type 0
AnswersFrames how first b shown [] fault s = s ≡ last_answer how.form fault
AnswersFrames how first b shown (rows d ∷ bodies) fault s = s ≡ last_word (refused_frame how.form Kind)
AnswersFrames how first b shown (lists d ∷ bodies) fault s = (status : StatusValue) × (rest : WatchScript)
    × IsNewestStatus first (board_join b (board_of_lists d)) status
    × (((ends_with how status ≡ true) × (rest ≡ completion))
    ⊎ ((ends_with how status ≡ false) × AnswersFrames how first (board_join b (board_of_lists d)) (status_shown how status) bodies fault rest))
    × (s ≡ after (change_in how.form shown (status_shown how status) ∷ []) rest)

-- ---- an input

-- the script answers an input of these bytes
abbrev pub AnswersInput : (List Body → Option WireFault → WatchScript → Type 0) → List ℕ → WatchScript → Type 0
AnswersInput plays read s = plays (heard_of read).bodies (fault_after (heard_of read).fault (heard_of read).rest) s

-- the script answers an input that begins with these bytes, as far as they go
abbrev pub AnswersSoFar : (List Body → Option WireFault → WatchScript → Type 0) → List ℕ → WatchScript → Type 0
AnswersSoFar plays read s = plays (heard_of read).bodies (heard_of read).fault s

-- what was written for the bytes that were read, by what was returned
abbrev pub IsOutcome : Result WatchEnd RunFault → (List Body → Option WireFault → WatchScript → Type 0) → List ℕ → List ℕ → Type 0
-- all answers, which end so
IsOutcome (Ok end) plays read written = (s : WatchScript) × AnswersInput plays read s × (written ≡ text_of s) × (s.ended ≡ end)
-- the answers to all frames so far
IsOutcome (Err Read) plays read written = (s : WatchScript) × AnswersSoFar plays read s × (written ≡ text_of s)
-- a prefix of the answers
IsOutcome (Err Write) plays read written = (s : WatchScript) × AnswersInput plays read s × IsPrefix written (text_of s)
-- the answers to all frames of earlier reads
IsOutcome (Err NoMemory) plays read written = (earlier : List ℕ) × (last : List ℕ) × (s : WatchScript)
    × (read ≡ earlier ++ last) × (length last ≤ block_size) × AnswersSoFar plays earlier s × (written ≡ text_of s)

-- What was done before the last read. What was read is what earlier reads gave, and then the last block, which is empty if the last
-- read failed or found the end. The frames of earlier reads did not end the watch, and what is written begins with the answers to them.
pub record IsPrompt (plays : List Body → Option WireFault → WatchScript → Type 0) (read written : List ℕ) : Type 0 where
  pub earlier : List ℕ
  pub last : List ℕ
  pub split : read ≡ earlier ++ last
  pub small : length last ≤ block_size
  pub script : WatchScript
  pub played : AnswersSoFar plays earlier script
  pub goes : script.ended ≡ Fine
  pub answered : IsPrefix (text_of script) written

-- both
abbrev pub IsWatchedBy : Result WatchEnd RunFault → (List Body → Option WireFault → WatchScript → Type 0) → List ℕ → List ℕ → Type 0
IsWatchedBy result plays read written = IsOutcome result plays read written × IsPrompt plays read written

-- `watch`: the course of two plans is watched, of which nothing is told yet and no status is answered
abbrev pub Watches : WatchAsk → Result WatchEnd RunFault → List PlanRange → List PlanRange → List ℕ → List ℕ → Type 0
Watches how result old new read written = IsWatchedBy result (AnswersFrames how (first_course old new) empty_board []) read written
