-- Commands on rows as lines write them, and rows as they are shown (this project's scenario language).
use Rattle.std.specs.Prelude.{ℕ, Bool, not, ◌&&◌, ◌==◌, List, [], ◌∷◌, ◌++◌, Option, None, Some, codes, if◌then◌else◌}
use Rattle.std.specs.List.{list_any}
use Rattle.std.specs.Option.{option_map, option_and_then}
use Rattle.std.specs.Str.{is_utf8, bytes_eq}
use Rattle.hex.specs.Hex.{encode_lower}
use Rattle.squall_key.specs.Keys.{key_of}
use Rattle.squall_cli_lines.specs.Words.{has_some, after_first_word}
use Rattle.squall_cli_words.specs.Forms.{number_first}
use Rattle.squall_cli_events.specs.declared.rows.RowWords.{RowWords}
use Rattle.squall_cli_events.specs.declared.rows.RowWords.TheVariants as words

-- a command on a row as a line writes it: to put the row of a text, to get the row, or to remove it
pub data CommandLine : Type 0 where
  Put : List ℕ → CommandLine
  Get : CommandLine
  Del : CommandLine

-- such a command on the row of a key at a partition, whatever the partition's number is
pub record RowLine : Type 0 where
  pub part : ℕ
  pub key : ℕ
  pub command : CommandLine

-- ---- lines

-- the partition and the key that the first two words write, and the words after them
abbrev pub key_next : ℕ → List (List ℕ) → Option (ℕ × ℕ × List (List ℕ))
key_next part [] = None
key_next part (word ∷ words) = option_map (λ key. (part, key, words)) (key_of word)

abbrev pub part_and_key : List (List ℕ) → Option (ℕ × ℕ × List (List ℕ))
part_and_key words = option_and_then (λ (n : ℕ × List (List ℕ)). key_next n.0 n.1) (number_first words)

-- the command to put the row of the text, if it has a byte
abbrev pub put_of : List ℕ → Option CommandLine
put_of text = if has_some text then Some (Put text) else None

-- the command, if no word is left
abbrev pub alone : CommandLine → List (List ℕ) → Option CommandLine
alone command [] = Some command
alone command (word ∷ words) = None

-- the command that the words after the key write, on the row of the partition and the key
abbrev pub at_key : (List (List ℕ) → Option CommandLine) → List (List ℕ) → Option RowLine
at_key command words =
    option_and_then (λ (n : ℕ × ℕ × List (List ℕ)). option_map (λ c. record { part = n.0; key = n.1; command = c }) (command n.2)) (part_and_key words)

-- put P K TEXT: the text is the rest of the line after the key
abbrev pub put_line : List (List ℕ) → List ℕ → Option RowLine
put_line words text = at_key (λ rest. put_of (after_first_word (after_first_word text))) words

-- get P K
abbrev pub get_line : List (List ℕ) → Option RowLine
get_line words = at_key (alone Get) words

-- del P K
abbrev pub del_line : List (List ℕ) → Option RowLine
del_line words = at_key (alone Del) words

-- the command that the first word names: the words after it must have its form
abbrev pub row_line : List ℕ → List (List ℕ) → List ℕ → Option RowLine
row_line name words text = if bytes_eq name (codes "put") then put_line words text
    else (if bytes_eq name (codes "get") then get_line words
    else (if bytes_eq name (codes "del") then del_line words
    else None))

-- what the code keeps of a line
abbrev pub row_seen : RowWords → RowLine
row_seen (words.Put part key text) = record { part = part; key = key; command = Put text.now }
row_seen (words.Get part key) = record { part = part; key = key; command = Get }
row_seen (words.Del part key) = record { part = part; key = key; command = Del }

-- ---- rows

-- the bytes are a text on one line
abbrev pub is_line : List ℕ → Bool
is_line bytes = not (list_any (λ b. b == 10) bytes) && is_utf8 bytes

-- `row` and the row's text, or `row` alone if there is no row. The bytes of a row that is no text on one line are in hex
abbrev pub row_text : Option (List ℕ) → List ℕ
row_text None = codes "row"
row_text (Some bytes) = if is_line bytes then codes "row " ++ bytes else codes "bytes " ++ encode_lower bytes

-- the line that shows a row
abbrev pub row_answer : Option (List ℕ) → List ℕ
row_answer row = row_text row ++ codes "\n"
