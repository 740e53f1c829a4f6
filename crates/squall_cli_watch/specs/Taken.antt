-- What the code has done with frames, for the contracts of the functions inside this crate. No promise cites these definitions.
use Rattle.std.specs.Prelude.{◌≡◌, ◌≢◌, ℕ, List, [], ◌∷◌, ◌++◌, map, false, if◌then◌else◌, Option, None, Result, Ok, Err, string_bytes}
use Rattle.std.specs.List.{concat}
use Rattle.squall_course.specs.Change.{Change}
use Rattle.squall_board.specs.Boards.{BoardValue}
use Rattle.squall_wire.specs.declared.fault.WireFault.{WireFault}
use Rattle.squall_wire.specs.declared.fault.WireFault.TheVariants.{Short}
use Rattle.squall_wire.specs.declared.message.Message.{Message}
use Rattle.squall_wire.specs.Messages.{Body, body_of}
use Rattle.squall_wire.specs.Hearing.{IsHeard}
use Rattle.squall_status.specs.Summary.{StatusValue}
use Rattle.squall_cli_lines.specs.Script.{IsPrefix}
use Rattle.squall_cli_lines.specs.declared.RunFault.{RunFault}
use Rattle.squall_cli_lines.specs.declared.RunFault.TheVariants.{Read, Write, NoMemory}
use Rattle.squall_cli_command.specs.declared.form.Form.{Form}
use Rattle.squall_cli_command.specs.declared.stream.WatchAsk.{WatchAsk}
use Rattle.squall_cli_boards.specs.Files.{fault_after}
use Rattle.squall_cli_watch.specs.declared.ending.WatchEnd.{WatchEnd}
use Rattle.squall_cli_watch.specs.declared.ending.WatchEnd.TheVariants.{Fine, Refused, Complete}
use Rattle.squall_cli_watch.specs.declared.ending.Next.{Next}
use Rattle.squall_cli_watch.specs.declared.ending.Next.TheVariants.{On, End}
use Rattle.squall_cli_watch.specs.declared.watcher.Watcher.{Watcher}
use Rattle.squall_cli_watch.specs.Scripts.{WatchScript, ending, after}
use Rattle.squall_cli_watch.specs.Watched.{AnswersFrames, IsNewestStatus, status_shown, ends_with, refused_frame}

-- the scripts that answer the frames to come
abbrev pub plays : Watcher → List Body → Option WireFault → WatchScript → Type 0
plays w bodies fault s = AnswersFrames w.how w.first w.board (string_bytes w.shown) bodies fault s

-- the text is the status of the newest course of the board, with which the watch does not end
pub record IsGoing (how : WatchAsk) (first : Change) (b : BoardValue) (text : List ℕ) : Type 0 where
  pub status : StatusValue
  pub is : IsNewestStatus first b status
  pub shown : text ≡ status_shown how status
  pub goes : ends_with how status ≡ false

-- the status that was answered last, if one was, is that of the board, and the watch does not end with it
abbrev pub ShowsNewest : Watcher → Type 0
ShowsNewest w = string_bytes w.shown ≢ [] → IsGoing w.how w.first w.board (string_bytes w.shown)

-- the same if the watch goes on; or it has ended, and not with its input
abbrev pub StaysNewest : Next → Watcher → Type 0
StaysNewest On w = ShowsNewest w
StaysNewest (End end) w = end ≢ Fine

-- what comes after a frame that is answered with this status
abbrev pub next_with : WatchAsk → StatusValue → Next
next_with how status = if ends_with how status then End Complete else On

-- One frame taken. Whatever answers the frames after it, answers this frame too if this text comes first; or this text ends the answers.
abbrev pub TakesFrame : Next → List ℕ → (List Body → Option WireFault → WatchScript → Type 0) → (List Body → Option WireFault → WatchScript → Type 0) → Body → Type 0
TakesFrame On text old new body = (bodies : List Body) (fault : Option WireFault) (s : WatchScript) → new bodies fault s → old (body ∷ bodies) fault (after (text ∷ []) s)
TakesFrame (End end) text old new body = (bodies : List Body) (fault : Option WireFault) → old (body ∷ bodies) fault (ending end (text ∷ []))

-- Frames taken that such a fault follows. There is none, and the frames after them come to be answered; or these texts are all answers,
-- whatever is left of the input, and they end so.
abbrev pub TakesFrames : Next → List (List ℕ) → (List Body → Option WireFault → WatchScript → Type 0) → (List Body → Option WireFault → WatchScript → Type 0)
    → List Body → Option WireFault → Type 0
TakesFrames On texts old new bodies fault = (fault ≡ None)
    × ((more : List Body) (f : Option WireFault) (s : WatchScript) → new more f s → old (bodies ++ more) f (after texts s))
TakesFrames (End end) texts old new bodies fault = (left : List ℕ) → old bodies (fault_after fault left) (ending end texts)

-- the frames taken that end in these bytes, of which the rest is left
abbrev pub TakesPiece : Next → List (List ℕ) → (List Body → Option WireFault → WatchScript → Type 0) → (List Body → Option WireFault → WatchScript → Type 0)
    → List ℕ → List ℕ → Type 0
TakesPiece next texts old new bytes left = (messages : List Message) × (fault : Option WireFault)
    × IsHeard bytes messages fault left × TakesFrames next texts old new (map body_of messages) fault

-- what was sent of the answers to these bytes
abbrev pub AnswersPiece : Result Next RunFault → (List Body → Option WireFault → WatchScript → Type 0) → (List Body → Option WireFault → WatchScript → Type 0)
    → List ℕ → List ℕ → List ℕ → Type 0
AnswersPiece (Ok next) old new bytes left sent = (texts : List (List ℕ)) × (sent ≡ concat texts) × TakesPiece next texts old new bytes left
AnswersPiece (Err Read) old new bytes left sent = ⊥
AnswersPiece (Err Write) old new bytes left sent = (next : Next) × (texts : List (List ℕ)) × IsPrefix sent (concat texts) × TakesPiece next texts old new bytes left
AnswersPiece (Err NoMemory) old new bytes left sent = sent ≡ []

-- what was sent at the end of the input, when these bytes wait
abbrev pub AnswersEnd : Form → Result WatchEnd RunFault → List ℕ → List ℕ → Type 0
AnswersEnd form (Ok Fine) waiting sent = (waiting ≡ []) × (sent ≡ [])
AnswersEnd form (Ok Refused) waiting sent = (waiting ≢ []) × (sent ≡ refused_frame form Short)
AnswersEnd form (Ok Complete) waiting sent = ⊥
AnswersEnd form (Err Read) waiting sent = ⊥
AnswersEnd form (Err Write) waiting sent = (waiting ≢ []) × IsPrefix sent (refused_frame form Short)
AnswersEnd form (Err NoMemory) waiting sent = ⊥
