-- What the code has drawn, and which boards it has joined, for the contracts of the functions inside this crate. No promise cites
-- these definitions.
use Rattle.std.specs.Prelude.{◌≡◌, ◌⊎◌, ◌≤◌, ℕ, List, [], ◌∷◌, ◌++◌, length, map, All, Bool, true, false, Option, Some, None, Result, Ok, Err, codes}
use Rattle.std.specs.List.{concat}
use Rattle.std.specs.Io.KnownBytes.{Consumes}
use Rattle.squall_course.specs.Change.{Change}
use Rattle.squall_board.specs.Boards.{BoardValue}
use Rattle.squall_wire.specs.declared.fault.WireFault.{WireFault}
use Rattle.squall_wire.specs.declared.message.Message.{Message}
use Rattle.squall_wire.specs.Messages.{Body, body_of}
use Rattle.squall_wire.specs.Hearing.{IsHeard}
use Rattle.squall_cli_device.specs.States.{SinkState, OutputFails}
use Rattle.squall_cli_lines.specs.Script.{block_size}
use Rattle.squall_cli_command.specs.declared.stream.WatchAsk.{WatchAsk}
use Rattle.squall_cli_lines.specs.Heeding.{Says}
use Rattle.squall_cli_lines.specs.declared.RunFault.{RunFault}
use Rattle.squall_cli_lines.specs.declared.RunFault.TheVariants.{Read, Write, NoMemory}
use Rattle.squall_cli_watch.specs.Bars.{redrawn, later_bars}
use Rattle.squall_cli_watch.specs.BarLines.{LineValue, IsDrawn, Adds, Ends}
use Rattle.squall_cli_watch.specs.declared.ending.WatchEnd.{WatchEnd}
use Rattle.squall_cli_watch.specs.declared.ending.Next.{Next}
use Rattle.squall_cli_watch.specs.declared.ending.Next.TheVariants.{On, End}
use Rattle.squall_cli_watch.specs.declared.watcher.Watcher.{Watcher}
use Rattle.squall_cli_watch.specs.Drawn.{AreJoined, AreDrawn}

-- ---- boards

-- the boards that frames to come make
abbrev pub makes : Watcher → List Body → BoardValue → Type 0
makes w bodies b = AreJoined w.how w.first w.board bodies b

-- One frame was joined: what the frames after it make of the new board, this frame and those make of the old one; or it ends that.
abbrev pub JoinsFrame : Next → (List Body → BoardValue → Type 0) → (List Body → BoardValue → Type 0) → BoardValue → Body → Type 0
JoinsFrame On old new b body = (bodies : List Body) (b' : BoardValue) → new bodies b' → old (body ∷ bodies) b'
JoinsFrame (End end) old new b body = (bodies : List Body) → old (body ∷ bodies) b

-- the same of frames that such a fault follows
abbrev pub JoinsFrames : Next → (List Body → BoardValue → Type 0) → (List Body → BoardValue → Type 0) → BoardValue → List Body → Option WireFault → Type 0
JoinsFrames On old new b bodies fault = (fault ≡ None) × ((more : List Body) (b' : BoardValue) → new more b' → old (bodies ++ more) b')
JoinsFrames (End end) old new b bodies fault = old bodies b

-- the same of the frames that end in these bytes, of which the rest is left
abbrev pub JoinsBytes : Next → (List Body → BoardValue → Type 0) → (List Body → BoardValue → Type 0) → BoardValue → List ℕ → List ℕ → Type 0
JoinsBytes next old new b bytes left = (messages : List Message) × (fault : Option WireFault)
    × IsHeard bytes messages fault left × JoinsFrames next old new b (map body_of messages) fault

-- the same by what was returned: after a failed allocation nothing is known
abbrev pub JoinsPiece : Result Next RunFault → (List Body → BoardValue → Type 0) → (List Body → BoardValue → Type 0) → BoardValue → List ℕ → List ℕ → Type 0
JoinsPiece (Ok next) old new b bytes left = JoinsBytes next old new b bytes left
JoinsPiece (Err Read) old new b bytes left = ⊥
JoinsPiece (Err Write) old new b bytes left = (next : Next) × JoinsBytes next old new b bytes left
JoinsPiece (Err NoMemory) old new b bytes left = Unit {0}

-- ---- one bar

-- the bar that is to be drawn; or none is, since the line is not drawn on or shows it already
abbrev pub IsToDraw : Option (List ℕ) → (List ℕ → Type 0) → LineValue → Type 0
IsToDraw (Some bar) IsBar line = IsBar bar × (line.on ≡ true)
IsToDraw None IsBar line = (line.on ≡ false) ⊎ IsBar line.shown

-- the bar was drawn in place of the one before, if the line is drawn on; or there was none to draw
abbrev pub Replaces : Option (List ℕ) → LineValue → LineValue → SinkState → SinkState → Type 0
Replaces (Some bar) line line' err err' = (line'.shown ≡ bar) × Adds line.on line'.on err err' (redrawn bar)
Replaces None line line' err err' = (line' ≡ line) × (err' ≡ err)

-- the line shows a bar, which was drawn in place of the one before or is that
abbrev pub ShowsOne : (List ℕ → Type 0) → LineValue → LineValue → SinkState → SinkState → Type 0
ShowsOne IsBar line line' err err' = (bar : List ℕ) × IsBar bar
    × (((line'.shown ≡ bar) × IsDrawn line'.on err err' (redrawn bar)) ⊎ ((bar ≡ line.shown) × (line' ≡ line) × (err' ≡ err)))

-- the same if the line was drawn on, and otherwise nothing was drawn
abbrev pub ShowsIfOn : Bool → (List ℕ → Type 0) → LineValue → LineValue → SinkState → SinkState → Type 0
ShowsIfOn true IsBar line line' err err' = ShowsOne IsBar line line' err err'
ShowsIfOn false IsBar line line' err err' = (line' ≡ line) × (err' ≡ err)

-- the same by what was returned: after a failed allocation nothing was drawn
abbrev pub ShowsPiece : Result Next RunFault → (List ℕ → Type 0) → LineValue → LineValue → SinkState → SinkState → Type 0
ShowsPiece (Ok next) IsBar line line' err err' = ShowsIfOn line.on IsBar line line' err err'
ShowsPiece (Err Read) IsBar line line' err err' = ⊥
ShowsPiece (Err Write) IsBar line line' err err' = ShowsIfOn line.on IsBar line line' err err'
ShowsPiece (Err NoMemory) IsBar line line' err err' = (line' ≡ line) × (err' ≡ err)

-- ---- all bars

-- a first bar was drawn on a terminal; on another sink nothing is
abbrev pub IsStarted : Bool → (List ℕ → Type 0) → LineValue → SinkState → SinkState → Type 0
IsStarted true IsBar line err err' = IsBar line.shown × IsDrawn line.on err err' line.shown
IsStarted false IsBar line err err' = (line.on ≡ false) × (err' ≡ err)

-- what is drawn after a first bar that is shown, once the line is ended
pub record DrawsAfter (how : WatchAsk) (first : Change) (b : BoardValue) (shown : List ℕ) (result : Result WatchEnd RunFault) (before after : Option (List ℕ)) (err err' : SinkState) : Type 0 where
  pub blocks : List (List ℕ)
  pub rest : List ℕ
  pub bars : List (List ℕ)
  pub read : Consumes before after (concat blocks ++ rest)
  pub small : All (λ block. length block ≤ block_size) blocks
  pub drawn : AreDrawn how first b [] shown blocks bars
  pub said : Says err err' (later_bars bars ++ codes "\n")
  pub whole : (rest ≡ []) ⊎ ((result ≡ Err NoMemory) ⊎ OutputFails err err')

-- the same before the line is ended, if it is still drawn on
abbrev pub DrawsOn : WatchAsk → Change → BoardValue → List ℕ → Result WatchEnd RunFault → Option (List ℕ) → Option (List ℕ) → SinkState → SinkState → Bool → Type 0
DrawsOn how first b shown result before after err err' on = (last : SinkState) → Ends on err' last → DrawsAfter how first b shown result before after err last
