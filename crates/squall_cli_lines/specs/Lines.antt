-- The lines of a text. The byte LF, which is 10, ends a line and is no part of it.
use Rattle.std.specs.Prelude.{◌≢◌, ℕ, ◌<◌, List, [], ◌∷◌, length, slice_index, ◌==◌, if◌then◌else◌}
use Rattle.std.specs.List.{onto_first}

-- the most bytes that a line of a scenario or of a race has
abbrev pub longest_line : ℕ
longest_line = 1048576

-- The lines of a text. Each LF ends a line, which begins right after the LF before it. The bytes after
-- the last LF are one more line, unless there are none.
abbrev pub lines_of : List ℕ → List (List ℕ)
lines_of [] = []
lines_of (b ∷ bs) = if b == 10 then [] ∷ lines_of bs else onto_first b (lines_of bs)

-- one byte before the whole lines that follow it, if there are some
abbrev pub onto_whole : ℕ → List ℕ → List ℕ
onto_whole b [] = []
onto_whole b (c ∷ cs) = b ∷ c ∷ cs

-- the text up to its last LF, which is the lines that are sure to be whole
abbrev pub whole_lines : List ℕ → List ℕ
whole_lines [] = []
whole_lines (b ∷ bs) = if b == 10 then b ∷ whole_lines bs else onto_whole b (whole_lines bs)

-- no byte is LF
abbrev pub IsOneLine : List ℕ → Type 0
IsOneLine bs = (k : ℕ) → k < length bs → slice_index bs k ≢ 10
