-- What changes from one text to the next (this project's command line).
use Rattle.std.specs.Prelude.{ℕ, List, [], ◌∷◌, ◌++◌, if◌then◌else◌}
use Rattle.std.specs.List.{flat_map}
use Rattle.std.specs.Str.{bytes_eq}
use Rattle.squall_cli_lines.specs.Lines.{lines_of}
use Rattle.squall_cli_command.specs.declared.form.Form.{Form}
use Rattle.squall_cli_command.specs.declared.form.Form.TheVariants.{Lines, Json}

-- the lines that differ from the line at the same place of those before, which may be fewer
abbrev pub changed : List (List ℕ) → List (List ℕ) → List (List ℕ)
changed before [] = []
changed [] (line ∷ lines) = line ∷ changed [] lines
changed (was ∷ before) (line ∷ lines) = (if bytes_eq was line then [] else line ∷ []) ++ changed before lines

-- a line and its LF
abbrev pub with_end : List ℕ → List ℕ
with_end line = line ++ 10 ∷ []

-- lines, one after another
abbrev pub text_of_lines : List (List ℕ) → List ℕ
text_of_lines lines = flat_map with_end lines

-- the lines of a text that differ from the line at the same place of the text before
abbrev pub changed_text : List ℕ → List ℕ → List ℕ
changed_text before after = text_of_lines (changed (lines_of before) (lines_of after))

-- the text, unless it is that before
abbrev pub text_unless_same : List ℕ → List ℕ → List ℕ
text_unless_same before after = if bytes_eq before after then [] else after

-- what is written of a text in the form: the lines that change, or all of a JSON object that is another
abbrev pub change_in : Form → List ℕ → List ℕ → List ℕ
change_in Lines before after = changed_text before after
change_in Json before after = text_unless_same before after
