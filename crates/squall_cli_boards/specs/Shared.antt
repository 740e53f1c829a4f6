-- What is answered of a plan in which partitions share keys (this project's command line).
use Rattle.std.specs.Prelude.{◌≡◌, ℕ, ◌+◌, ◌-◌, ◌==◌, ◌&&◌, ◌||◌, nat_lt, nat_le, Bool, List, [], ◌∷◌, length, take, drop, position, MatchBool, Option, None, Some, Result, Ok, Err, codes, if◌then◌else◌}
use Rattle.std.specs.List.{range_with_len}
use Rattle.std.specs.Option.{option_and_then, option_map}
use Rattle.squall_key.specs.Numbers.{number_of}
use Rattle.squall_key.specs.Keys.{part_limit}
use Rattle.squall_plan_edit.specs.Shares.{units_below, owner_shared}
use Rattle.squall_cli_command.specs.declared.form.Form.TheVariants.{Lines}
use Rattle.squall_cli_boards.specs.declared.words.WordFault.TheVariants.{NoBound, NoPart}
use Rattle.squall_cli_boards.specs.Answers.{AnswerValue, refusing}
use Rattle.squall_cli_boards.specs.BadWords.{BadValue, bad_words, bound_in, written, refusing_words}
use Rattle.squall_cli_boards.specs.Planned.{after_parts, ShowsOwners}

-- ---- what words write

abbrev pub is_hyphen : ℕ → Bool
is_hyphen b = b == 45

-- the bytes before the first hyphen, and those after it
abbrev pub at_hyphen : List ℕ → Option (List ℕ × List ℕ)
at_hyphen word = option_map (λ i. (take i word, drop (i + 1) word)) (position is_hyphen word)

-- the numbers of two words
abbrev pub numbers_of : List ℕ → List ℕ → Option (ℕ × ℕ)
numbers_of first last = option_and_then (λ low. option_map (λ high. (low, high)) (number_of last)) (number_of first)

-- the two numbers of a word with a hyphen, or the one number of another word, twice
abbrev pub numbers_at : List ℕ → Option (List ℕ × List ℕ) → Option (ℕ × ℕ)
numbers_at word None = numbers_of word word
numbers_at word (Some parts) = numbers_of parts.0 parts.1

-- a run of partitions: from its first number up to its last one
abbrev pub run_between : ℕ × ℕ → Option (ℕ × ℕ)
run_between run = if nat_le run.0 run.1 && nat_lt run.1 part_limit then Some run else None

abbrev pub run_of_word : List ℕ → Option (ℕ × ℕ)
run_of_word word = option_and_then run_between (numbers_at word (at_hyphen word))

-- the run of partitions that a word writes
abbrev pub run_in : List ℕ → Result (ℕ × ℕ) BadValue
run_in word = written (run_of_word word) (word ∷ []) NoPart

-- the partitions of a run
abbrev pub parts_of_run : ℕ × ℕ → List ℕ
parts_of_run run = range_with_len run.0 (run.1 + 1 - run.0)

-- the partitions of a run and those of the words after it, or why the first word that is refused is
abbrev pub run_first : Result (ℕ × ℕ) BadValue → Result (List ℕ) BadValue → Result (List ℕ) BadValue
run_first (Ok run) parts = after_parts (parts_of_run run) parts
run_first (Err bad) parts = Err bad

-- the partitions that words write, a run each
abbrev pub parts_listed : List (List ℕ) → Result (List ℕ) BadValue
parts_listed [] = Ok []
parts_listed (word ∷ words) = run_first (run_in word) (parts_listed words)

-- ---- `split`

-- there is no partition, or there are more than units below the bound
abbrev pub lacks_keys : ℕ → List ℕ → Bool
lacks_keys below parts = length parts == 0 || nat_lt (units_below below) (length parts)

-- the plan in which the partitions share the keys below the bound; or that these are too few
abbrev pub ShowsShares : ℕ → List ℕ → AnswerValue → Type 0
ShowsShares below parts a = MatchBool (lacks_keys below parts) (a ≡ refusing (codes "refused plan Few\n")) (ShowsOwners (owner_shared below parts) a)

-- the same of the bound and the partitions that words write, or what refuses a word
abbrev pub AnswersShares : Result ℕ BadValue → Result (List ℕ) BadValue → AnswerValue → Type 0
AnswersShares (Ok below) (Ok parts) a = ShowsShares below parts a
AnswersShares (Ok below) (Err bad) a = a ≡ refusing_words Lines bad
AnswersShares (Err bad) parts a = a ≡ refusing_words Lines bad

-- the same of words: the first one is the bound
abbrev pub AnswersSplit : List (List ℕ) → AnswerValue → Type 0
AnswersSplit [] a = a ≡ refusing_words Lines (bad_words [] NoBound)
AnswersSplit (below ∷ words) a = AnswersShares (bound_in below) (parts_listed words) a
