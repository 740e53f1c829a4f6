-- What is drawn on a terminal while a course is watched (this project's command line).
use Rattle.std.specs.Prelude.{◌≡◌, ◌⊎◌, ◌≤◌, ℕ, List, [], ◌∷◌, ◌++◌, length, All, Bool, true, false, Option, Result, Err}
use Rattle.std.specs.List.{concat, count_by}
use Rattle.std.specs.Io.KnownBytes.{Consumes}
use Rattle.squall_course.specs.Change.{Change}
use Rattle.squall_board.specs.Boards.{BoardValue, board_join, says}
use Rattle.squall_board.specs.CourseRoute.{course_of_board}
use Rattle.squall_status.specs.Summary.{StatusValue, IsStatusOf}
use Rattle.squall_status.specs.Shares.{is_over, is_ended, course_share}
use Rattle.squall_wire.specs.Messages.{Body, lists, rows}
use Rattle.squall_wire.specs.BoardOf.{board_of_lists}
use Rattle.squall_wire.specs.Heard.{heard_of}
use Rattle.squall_cli_device.specs.States.{SinkState, OutputFails}
use Rattle.squall_cli_lines.specs.Script.{block_size}
use Rattle.squall_cli_lines.specs.Heeding.{Says}
use Rattle.squall_cli_lines.specs.declared.RunFault.{RunFault}
use Rattle.squall_cli_lines.specs.declared.RunFault.TheVariants.{NoMemory}
use Rattle.squall_cli_command.specs.declared.stream.WatchAsk.{WatchAsk}
use Rattle.squall_cli_watch.specs.declared.bar.text.Bar.{Bar}
use Rattle.squall_cli_watch.specs.declared.ending.WatchEnd.{WatchEnd}
use Rattle.squall_cli_watch.specs.Watched.{IsNewestStatus, ends_with}
use Rattle.squall_cli_watch.specs.Bars.{bar_text, all_bars}

-- ---- one bar

-- what the bar of a status shows
abbrev pub bar_of : StatusValue → Bar
bar_of s = record {
  share = course_share s.moves;
  complete = count_by is_over s.moves;
  moves = length s.moves;
  ended = count_by is_ended s.subplans;
  subplans = length s.subplans;
}

-- the text is the bar of the newest course of the board after the first
pub record IsNewestBar (first : Change) (b : BoardValue) (text : List ℕ) : Type 0 where
  pub status : StatusValue
  pub is : IsStatusOf (course_of_board first b) (says b) status
  pub shown : text ≡ bar_text (bar_of status)

-- ---- bars after reads

-- The board with those of frames joined in, up to a frame of another kind, or to that with whose status the watch ends.
abbrev pub AreJoined : WatchAsk → Change → BoardValue → List Body → BoardValue → Type 0
AreJoined how first b [] b' = b' ≡ b
AreJoined how first b (rows d ∷ bodies) b' = b' ≡ b
AreJoined how first b (lists d ∷ bodies) b' = (status : StatusValue) × IsNewestStatus first (board_join b (board_of_lists d)) status
    × (((ends_with how status ≡ true) × (b' ≡ board_join b (board_of_lists d)))
    ⊎ ((ends_with how status ≡ false) × AreJoined how first (board_join b (board_of_lists d)) bodies b'))

-- the text is the bar after what was read, if a board was known before
abbrev pub IsBarAfter : WatchAsk → Change → BoardValue → List ℕ → List ℕ → Type 0
IsBarAfter how first b read text = (b' : BoardValue) × AreJoined how first b (heard_of read).bodies b' × IsNewestBar first b' text

-- These bars are drawn while blocks are read, after other bytes were read and a bar was shown: after each block its bar, or
-- none if the bar that is shown is already that.
abbrev pub AreDrawn : WatchAsk → Change → BoardValue → List ℕ → List ℕ → List (List ℕ) → List (List ℕ) → Type 0
AreDrawn how first b before shown [] bars = bars ≡ []
AreDrawn how first b before shown (block ∷ blocks) bars = (bar : List ℕ) × (rest : List (List ℕ))
    × IsBarAfter how first b (before ++ block) bar × AreDrawn how first b (before ++ block) bar blocks rest
    × ((bars ≡ bar ∷ rest) ⊎ ((bar ≡ shown) × (bars ≡ rest)))

-- What is drawn on a terminal while a course is watched, if a board was known before. A first bar comes before the first read. After
-- each read the bar that is shown is that of all that was read. The rest of what was read has none: it is empty unless an allocation
-- failed, or a write to the terminal. The line of the last bar is ended.
pub record Draws (how : WatchAsk) (first : Change) (b : BoardValue) (result : Result WatchEnd RunFault) (before after : Option (List ℕ)) (err err' : SinkState) : Type 0 where
  pub shown : List ℕ
  pub blocks : List (List ℕ)
  pub rest : List ℕ
  pub bars : List (List ℕ)
  pub start : IsNewestBar first b shown
  pub read : Consumes before after (concat blocks ++ rest)
  pub small : All (λ block. length block ≤ block_size) blocks
  pub drawn : AreDrawn how first b [] shown blocks bars
  pub said : Says err err' (all_bars shown bars)
  pub whole : (rest ≡ []) ⊎ ((result ≡ Err NoMemory) ⊎ OutputFails err err')

-- What is drawn on standard error: nothing if it is no terminal, or if an allocation failed before the first bar.
abbrev pub ShowsBars : Bool → WatchAsk → Change → BoardValue → Result WatchEnd RunFault → Option (List ℕ) → Option (List ℕ) → SinkState → SinkState → Type 0
ShowsBars false how first b result before after err err' = err' ≡ err
ShowsBars true how first b result before after err err' = Draws how first b result before after err err' ⊎ ((result ≡ Err NoMemory) × (err' ≡ err))
