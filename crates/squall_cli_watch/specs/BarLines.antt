-- The line of a terminal on which a bar is drawn (this project's command line).
use Rattle.std.specs.Prelude.{◌≡◌, ℕ, List, Bool, true, false, codes}
use Rattle.squall_cli_device.specs.States.{SinkState, TookBytes, OutputFails, NoWriteFails}
use Rattle.squall_cli_lines.specs.Script.{IsPrefix}
use Rattle.squall_cli_lines.specs.Heeding.{Says}

-- whether bars are drawn on the line, and the bar that was drawn last
pub record LineValue : Type 0 where
  pub on : Bool
  pub shown : List ℕ

-- What a sink took, by whether it is drawn on afterwards: all of the text, and no write failed; or a prefix, and then a write failed.
abbrev pub IsDrawn : Bool → SinkState → SinkState → List ℕ → Type 0
IsDrawn true old new text = TookBytes old new text × NoWriteFails old new
IsDrawn false old new text = (said : List ℕ) × TookBytes old new said × IsPrefix said text × OutputFails old new

-- the same by whether it was drawn on before, and if not, it stays as it was
abbrev pub Adds : Bool → Bool → SinkState → SinkState → List ℕ → Type 0
Adds true on old new text = IsDrawn on old new text
Adds false on old new text = (on ≡ false) × (new ≡ old)

-- the line was ended, if it was drawn on
abbrev pub Ends : Bool → SinkState → SinkState → Type 0
Ends true old new = Says old new (codes "\n")
Ends false old new = new ≡ old
