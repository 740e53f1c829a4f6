-- The answers to the frames of a watch, and how they end (this project's command line).
use Rattle.std.specs.Prelude.{ℕ, List, [], ◌∷◌, ◌++◌}
use Rattle.std.specs.List.{concat}
use Rattle.squall_cli_watch.specs.declared.ending.WatchEnd.{WatchEnd}
use Rattle.squall_cli_watch.specs.declared.ending.WatchEnd.TheVariants.{Fine, Refused, Complete}

-- The answers to some frames, one for each frame in turn, which may be empty; and what ended them. If a frame is refused its answer is the
-- last one, and so is that of the frame with which the watch ends.
pub record WatchScript : Type 0 where
  pub answers : List (List ℕ)
  pub ended : WatchEnd

-- these answers, and that end
abbrev pub ending : WatchEnd → List (List ℕ) → WatchScript
ending end texts = record { answers = texts; ended = end }

-- no answer, at the end of the input
abbrev pub silence : WatchScript
silence = ending Fine []

-- the answer that refuses a frame, and no more
abbrev pub last_word : List ℕ → WatchScript
last_word text = ending Refused (text ∷ [])

-- no more is answered, since the course is complete
abbrev pub completion : WatchScript
completion = ending Complete []

-- these answers, and then those of the script
abbrev pub after : List (List ℕ) → WatchScript → WatchScript
after texts script = ending script.ended (texts ++ script.answers)

-- the text of a script: its answers, one after another
abbrev pub text_of : WatchScript → List ℕ
text_of script = concat script.answers
