-- What the last line of a text is.
use Rattle.std.specs.Prelude.{◌≡◌, ◌≢◌, ℕ, List, ◌++◌, Option, None, Some, codes}
use Rattle.std.specs.List.{AllByRecursion, last_or}
use Rattle.squall_cli_lines.specs.Lines.{lines_of}
use Rattle.squall_cli_words.specs.declared.reason.Reason.{Reason}
use Rattle.squall_cli_words.specs.Reasons.{bad_line}

-- the last line of a text, if it has a line
abbrev pub last_line : List ℕ → Option (List ℕ)
last_line text = last_or None (lines_of text)

-- the last line of the text says why a line is bad
abbrev pub EndsInBadLine : List ℕ → Type 0
EndsInBadLine text = (n : ℕ) × (reason : Reason) × (last_line text ≡ Some (bad_line n reason))

-- no line of the text says why a line is bad
abbrev pub HasNoBadLine : List ℕ → Type 0
HasNoBadLine text = (n : ℕ) (reason : Reason) → AllByRecursion (λ line. line ≢ bad_line n reason) (lines_of text)

-- the last line of the text, if it has a line, does not say why a line is bad
abbrev pub EndsInNoBadLine : List ℕ → Type 0
EndsInNoBadLine text = (n : ℕ) (reason : Reason) → last_line text ≢ Some (bad_line n reason)

-- the last line of the text begins with `refused` and a blank
abbrev pub EndsInRefusal : List ℕ → Type 0
EndsInRefusal text = (rest : List ℕ) × (last_line text ≡ Some (codes "refused " ++ rest))

-- the last line of the text, if it has a line, does not begin so
abbrev pub EndsInNoRefusal : List ℕ → Type 0
EndsInNoRefusal text = (rest : List ℕ) → last_line text ≢ Some (codes "refused " ++ rest)
