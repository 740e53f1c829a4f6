-- What the lines of a race file say (this project's scenario language).
use Rattle.std.specs.Prelude.{ℕ, List, [], ◌∷◌, length, slice_index, Option, None, Some, codes, nat_lt, ◌==◌, if◌then◌else◌}
use Rattle.std.specs.Option.{option_map, option_map_or, option_and_then}
use Rattle.std.specs.Str.{bytes_eq}
use Rattle.squall_key.specs.Numbers.{number_of}
use Rattle.squall_key.specs.Keys.{key_of}
use Rattle.squall_cli_lines.specs.Lines.{longest_line}
use Rattle.squall_cli_lines.specs.Words.{words_of, only_word, after_first_word}
use Rattle.squall_cli_words.specs.declared.reason.Reason.{Reason}
use Rattle.squall_cli_words.specs.declared.reason.Reason.TheVariants.{Long, Word}
use Rattle.squall_cli_words.specs.ReportLines.{report_line}
use Rattle.squall_cli_race.specs.declared.line.Item.{Item}
use Rattle.squall_cli_race.specs.declared.line.Item.TheVariants.{Capacity, Readers, Senders, Post, Ask}

-- What a line says. It says nothing if it has no word or is a remark. Else it says the old plan or the new one, by its text; an item of
-- the race; or why the line is bad. An item is the room of the inbox, the count of readers or of senders, a report of a sender, or a key
-- to route.
pub data RaceLine : Type 0 where
  Skip : RaceLine
  Old : List ℕ → RaceLine
  New : List ℕ → RaceLine
  Has : Item → RaceLine
  Bad : Reason → RaceLine

-- the number that the only word writes
abbrev pub number_alone : List (List ℕ) → Option ℕ
number_alone words = option_and_then number_of (only_word words)

-- key K
abbrev pub key_line : List (List ℕ) → Option Item
key_line words = option_map Ask (option_and_then key_of (only_word words))

-- N REPORT: what follows the number of a sender is a line that writes a report
abbrev pub posted_line : ℕ → List (List ℕ) → Option Item
posted_line sender [] = None
posted_line sender (name ∷ words) = option_map (Post sender) (report_line name words)

abbrev pub post_line : List ℕ → List (List ℕ) → Option Item
post_line name words = option_and_then (λ sender. posted_line sender words) (number_of name)

-- the item that the first word and those after it write
abbrev pub item_by : List ℕ → List (List ℕ) → Option Item
item_by name words = if bytes_eq name (codes "capacity") then option_map Capacity (number_alone words)
    else (if bytes_eq name (codes "readers") then option_map Readers (number_alone words)
    else (if bytes_eq name (codes "senders") then option_map Senders (number_alone words)
    else (if bytes_eq name (codes "key") then key_line words
    else post_line name words)))

-- what they say: the text of a plan is the rest of the line
abbrev pub line_by : List ℕ → List (List ℕ) → List ℕ → Option RaceLine
line_by name words text = if bytes_eq name (codes "old") then Some (Old text)
    else (if bytes_eq name (codes "new") then Some (New text)
    else option_map Has (item_by name words))

-- a line without words, or whose first word begins with #, is skipped
abbrev pub of_words : List (List ℕ) → List ℕ → RaceLine
of_words [] text = Skip
of_words (name ∷ words) text = if slice_index name 0 == 35 then Skip else option_map_or (λ l. l) (line_by name words text) (Bad Word)

-- what a line says, its line end taken off
abbrev pub race_line : List ℕ → RaceLine
race_line line = if nat_lt longest_line (length line) then Bad Long else of_words (words_of line) (after_first_word line)
