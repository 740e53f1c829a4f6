-- The words of lines of logs (this project's logs).
use Rattle.std.specs.Prelude.{ℕ, List, [], ◌∷◌, Option, None, Some, nat_lt, codes, if◌then◌else◌}
use Rattle.std.specs.Option.{option_map, option_and_then}
use Rattle.std.specs.Str.{bytes_eq}
use Rattle.squall_key.specs.Numbers.{number_of}
use Rattle.squall_key.specs.Keys.{part_limit, bound_of}
use Rattle.squall_span.specs.Spans.{Interval, span_at}
use Rattle.squall_cli_lines.specs.Words.{words_of, only_word, after_word}
use Rattle.squall_cli_words.specs.Forms.{number_first}

-- the words after the name, if it is the first word
abbrev pub after_name : List ℕ → List (List ℕ) → Option (List (List ℕ))
after_name name [] = None
after_name name (word ∷ words) = if bytes_eq word name then Some words else None

-- the number that the word after the name writes, and the words after it
abbrev pub named_number : List ℕ → List (List ℕ) → Option (ℕ × List (List ℕ))
named_number name words = option_and_then number_first (after_name name words)

-- the number that the only word writes
abbrev pub number_alone : List (List ℕ) → Option ℕ
number_alone words = option_and_then number_of (only_word words)

-- the partition of the number, if the number is within its limit
abbrev pub part_of : ℕ → Option ℕ
part_of n = if nat_lt n part_limit then Some n else None

-- the first two words, and those after them
abbrev pub two_first : List (List ℕ) → Option (List ℕ × List ℕ × List (List ℕ))
two_first [] = None
two_first (first ∷ []) = None
two_first (first ∷ second ∷ words) = Some (first, second, words)

-- WAY P course N sub S: the three numbers, and the words after these
abbrev pub way_first : List ℕ → List (List ℕ) → Option (ℕ × ℕ × ℕ × List (List ℕ))
way_first way words =
    option_and_then (λ (p : ℕ × List (List ℕ)). option_and_then (λ (n : ℕ × List (List ℕ)). option_map (λ (s : ℕ × List (List ℕ)). (p.0, n.0, s.0, s.1))
    (named_number (codes "sub") n.1)) (named_number (codes "course") p.1)) (named_number way words)

-- the span of the bounds that the words write, if it has a key
abbrev pub span_of : List ℕ → List ℕ → Option Interval
span_of lo hi = option_and_then (λ l. option_and_then (span_at l) (bound_of hi)) (bound_of lo)

-- the number that the first word of a line writes, and the rest right after that word
abbrev pub number_then : List ℕ → Option (ℕ × List ℕ)
number_then line = option_map (λ (n : ℕ × List (List ℕ)). (n.0, after_word line)) (number_first (words_of line))
