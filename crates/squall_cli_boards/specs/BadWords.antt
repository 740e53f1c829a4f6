-- Words of a command line that are refused by themselves (this project's command line).
use Rattle.std.specs.Prelude.{ℕ, List, [], ◌∷◌, ◌++◌, map, string_bytes, Option, None, Some, Result, Ok, Err, codes}
use Rattle.std.specs.List.{flat_map}
use Rattle.squall_key.specs.Keys.{key_of, bound_of}
use Rattle.squall_span.specs.Spans.{Interval, span_at}
use Rattle.squall_cli_command.specs.declared.form.Form.{Form}
use Rattle.squall_cli_command.specs.declared.form.Form.TheVariants.{Lines, Json}
use Rattle.squall_cli_json.specs.Values.{json_line, json_of_refusal}
use Rattle.squall_cli_boards.specs.declared.words.WordFault.{WordFault}
use Rattle.squall_cli_boards.specs.declared.words.WordFault.TheVariants.{NoKey, NoBound, NoSpan, NoPart}
use Rattle.squall_cli_boards.specs.declared.words.Phrase.{Phrase}
use Rattle.squall_cli_boards.specs.declared.words.Phrase.TheVariants.{One, Two, All}
use Rattle.squall_cli_boards.specs.declared.words.BadWord.{BadWord}
use Rattle.squall_cli_boards.specs.Answers.{AnswerValue, refusing}

-- the words that are refused, and why
pub record BadValue : Type 0 where
  pub words : List (List ℕ)
  pub fault : WordFault

abbrev pub bad_words : List (List ℕ) → WordFault → BadValue
bad_words words fault = record { words = words; fault = fault }

-- the words, without where they lie in memory
abbrev pub phrase_seen : Phrase → List (List ℕ)
phrase_seen (One word) = word.now ∷ []
phrase_seen (Two word other) = word.now ∷ other.now ∷ []
phrase_seen (All words) = map string_bytes words.now

abbrev pub bad_seen : BadWord → BadValue
bad_seen b = bad_words (phrase_seen b.phrase) b.fault

-- a value, or why a word is refused, without where the word lies in memory
abbrev pub word_seen : {X : Type 0} → Result X BadWord → Result X BadValue
word_seen (Ok x) = Ok x
word_seen (Err b) = Err (bad_seen b)

-- ---- what refuses words

-- words, each after a blank
abbrev pub after_blanks : List (List ℕ) → List ℕ
after_blanks words = flat_map (λ word. 32 ∷ word) words

-- words with a blank between them
abbrev pub spaced : List (List ℕ) → List ℕ
spaced [] = []
spaced (word ∷ words) = word ++ after_blanks words

abbrev pub text_of_word_fault : WordFault → List ℕ
text_of_word_fault NoKey = codes "NoKey"
text_of_word_fault NoBound = codes "NoBound"
text_of_word_fault NoSpan = codes "NoSpan"
text_of_word_fault NoPart = codes "NoPart"

-- the line that refuses words: the words and their fault
abbrev pub bad_line : BadValue → List ℕ
bad_line b = codes "refused " ++ (spaced b.words ++ (codes " " ++ (text_of_word_fault b.fault ++ codes "\n")))

-- words are refused, by that line or as JSON
abbrev pub refusing_words : Form → BadValue → AnswerValue
refusing_words Lines b = refusing (bad_line b)
refusing_words Json b = refusing (json_line (json_of_refusal (spaced b.words) (text_of_word_fault b.fault)))

-- ---- what words write

-- what a word writes, or why it is refused
abbrev pub written : {X : Type 0} → Option X → List (List ℕ) → WordFault → Result X BadValue
written (Some x) words fault = Ok x
written None words fault = Err (bad_words words fault)

-- the key that a word writes
abbrev pub key_in : List ℕ → Result ℕ BadValue
key_in word = written (key_of word) (word ∷ []) NoKey

-- the bound that a word writes
abbrev pub bound_in : List ℕ → Result ℕ BadValue
bound_in word = written (bound_of word) (word ∷ []) NoBound

abbrev pub span_of_bounds : List (List ℕ) → Result ℕ BadValue → Result ℕ BadValue → Result Interval BadValue
span_of_bounds words (Ok lo) (Ok hi) = written (span_at lo hi) words NoSpan
span_of_bounds words (Ok lo) (Err bad) = Err bad
span_of_bounds words (Err bad) hi = Err bad

-- the span of the bounds that two words write
abbrev pub span_in : List ℕ → List ℕ → Result Interval BadValue
span_in lo hi = span_of_bounds (lo ∷ hi ∷ []) (bound_in lo) (bound_in hi)
