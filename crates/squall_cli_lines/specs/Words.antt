-- The words of a line: the bytes between blanks. A blank is a space or a tab.
use Rattle.std.specs.Prelude.{ℕ, ◌-◌, Bool, true, false, not, ◌||◌, List, [], ◌∷◌, length, take, drop}
use Rattle.std.specs.Prelude.{Option, None, Some, slice_index, filter, ◌==◌, if◌then◌else◌}
use Rattle.std.specs.List.{slice_split, before_first, position_or_len}

-- a space or a tab
abbrev pub is_blank : ℕ → Bool
is_blank b = b == 32 || b == 9

-- any other byte
abbrev pub is_letter : ℕ → Bool
is_letter b = not (is_blank b)

-- the bytes from the first on that passes the test, or none if none does
abbrev pub from_first : (ℕ → Bool) → List ℕ → List ℕ
from_first test bytes = drop (position_or_len test bytes) bytes

-- whether there is a byte
abbrev pub has_some : List ℕ → Bool
has_some [] = false
has_some (b ∷ bs) = true

-- the parts between blanks, without those that are empty
abbrev pub words_of : List ℕ → List (List ℕ)
words_of line = filter has_some (slice_split is_blank line)

-- the word of a list of one word
abbrev pub only_word : List (List ℕ) → Option (List ℕ)
only_word (word ∷ []) = Some word
only_word [] = None
only_word (word ∷ other ∷ words) = None

-- the first word: the bytes after the first blanks, up to the next blank
abbrev pub first_word : List ℕ → List ℕ
first_word line = before_first is_blank (from_first is_letter line)

-- the rest right after the first word, from the blank on that ends it
abbrev pub after_word : List ℕ → List ℕ
after_word line = from_first is_blank (from_first is_letter line)

-- the rest after the first word and the blanks that follow it
abbrev pub after_first_word : List ℕ → List ℕ
after_first_word line = from_first is_letter (after_word line)

-- a line without the one CR that may be at its end
abbrev pub without_cr : List ℕ → List ℕ
without_cr line = if slice_index line (length line - 1) == 13 then take (length line - 1) line else line
