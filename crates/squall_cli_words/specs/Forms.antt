-- What words write (this project's scenario language).
use Rattle.std.specs.Prelude.{ℕ, List, [], ◌∷◌, Option, None, Some}
use Rattle.std.specs.Option.{option_map, option_and_then}
use Rattle.squall_key.specs.Numbers.{number_of}
use Rattle.squall_key.specs.Keys.{bound_of}
use Rattle.squall_cli_lines.specs.Words.{only_word}

-- the number that the first word writes, and the words after it
abbrev pub number_first : List (List ℕ) → Option (ℕ × List (List ℕ))
number_first [] = None
number_first (word ∷ words) = option_map (λ n. (n, words)) (number_of word)

-- the two words of a list of two
abbrev pub two_words : List (List ℕ) → Option (List ℕ × List ℕ)
two_words [] = None
two_words (word ∷ words) = option_map (λ other. (word, other)) (only_word words)

-- the three numbers that the first words write, and the words after them
abbrev pub cell_first : List (List ℕ) → Option (ℕ × ℕ × ℕ × List (List ℕ))
cell_first words =
    option_and_then (λ (n : ℕ × List (List ℕ)). option_and_then (λ (s : ℕ × List (List ℕ)). option_map (λ (p : ℕ × List (List ℕ)). (n.0, s.0, p.0, p.1))
    (number_first s.1)) (number_first n.1)) (number_first words)

-- the two bounds that the words write
abbrev pub two_bounds : List (List ℕ) → Option (ℕ × ℕ)
two_bounds words =
    option_and_then (λ (w : List ℕ × List ℕ). option_and_then (λ lo. option_map (λ hi. (lo, hi)) (bound_of w.1)) (bound_of w.0)) (two_words words)
