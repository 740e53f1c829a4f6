-- What is answered to lines of keys (this project's command line).
use Rattle.std.specs.Prelude.{ℕ, List, [], ◌∷◌, ◌++◌, length, nat_lt, Option, None, Some, Result, Ok, Err, codes, if◌then◌else◌}
use Rattle.squall_key.specs.Keys.{key_of}
use Rattle.squall_cli_device.specs.Counts.{one_more}
use Rattle.squall_cli_lines.specs.Lines.{longest_line}
use Rattle.squall_cli_lines.specs.Words.{words_of, without_cr}
use Rattle.squall_cli_lines.specs.Script.{Script, silence, after, last_word}
use Rattle.squall_cli_words.specs.declared.reason.Reason.{Reason}
use Rattle.squall_cli_words.specs.declared.reason.Reason.TheVariants.{Long, Word}
use Rattle.squall_cli_words.specs.Reasons.{bad_line}
use Rattle.squall_cli_words.specs.RouteText.{route_text}

-- ---- one line

abbrev pub key_or_bad : Option ℕ → Result (Option ℕ) Reason
key_or_bad None = Err Word
key_or_bad (Some key) = Ok (Some key)

-- the key that the words of a line write, or none if there is no word
abbrev pub key_of_words : List (List ℕ) → Result (Option ℕ) Reason
key_of_words [] = Ok None
key_of_words (word ∷ []) = key_or_bad (key_of word)
key_of_words (word ∷ other ∷ words) = Err Word

-- the key on a line, or none on a line without words, or why the line is bad
abbrev pub key_on_line : List ℕ → Result (Option ℕ) Reason
key_on_line line = if nat_lt longest_line (length line) then Err Long else key_of_words (words_of line)

-- the line of the key and the partition to ask for it; a line without a key has no answer
abbrev pub text_of_route : (ℕ → ℕ) → Option ℕ → List ℕ
text_of_route to_part None = []
text_of_route to_part (Some key) = route_text key (to_part key)

-- the line that says why the line of that number is bad
abbrev pub bad_text : ℕ → Reason → List ℕ
bad_text number reason = bad_line number reason ++ codes "\n"

-- ---- all lines

-- what is answered to the line of that number, and then to the lines after it: a bad line ends the answers
abbrev pub key_before : (ℕ → ℕ) → ℕ → Result (Option ℕ) Reason → Script → Script
key_before to_part number (Ok key) rest = after (text_of_route to_part key ∷ []) rest
key_before to_part number (Err reason) rest = last_word (bad_text number reason)

-- The answers to lines of keys, if so many lines came before them. Each key is answered with the partition to ask. A line may end in a CR.
abbrev pub keys_script : (ℕ → ℕ) → ℕ → List (List ℕ) → Script
keys_script to_part before [] = silence
keys_script to_part before (line ∷ lines) = key_before to_part (one_more before) (key_on_line (without_cr line)) (keys_script to_part (one_more before) lines)
