-- What the lines of a scenario ask for (this project's scenario language).
use Rattle.std.specs.Prelude.{ℕ, Bool, true, false, List, [], ◌∷◌, length, slice_index, Option, None, Some, codes, nat_lt, ◌==◌, if◌then◌else◌}
use Rattle.std.specs.Option.{option_map, option_map_or, option_and_then}
use Rattle.std.specs.Str.{bytes_eq}
use Rattle.squall_key.specs.Numbers.{number_of}
use Rattle.squall_key.specs.Keys.{key_of}
use Rattle.squall_cli_lines.specs.Lines.{longest_line}
use Rattle.squall_cli_lines.specs.Words.{words_of, only_word, after_first_word}
use Rattle.squall_cli_words.specs.declared.reason.Reason.{Reason}
use Rattle.squall_cli_words.specs.declared.reason.Reason.TheVariants.{Long, Word}
use Rattle.squall_cli_words.specs.declared.reports.ReportWords.{ReportWords}
use Rattle.squall_cli_words.specs.Forms.{number_first, two_bounds}
use Rattle.squall_cli_words.specs.ReportLines.{report_line}
use Rattle.squall_cli_events.specs.EventLines.{EventLine, event_line}
use Rattle.squall_cli_events.specs.RowLines.{RowLine, row_line}

-- What a line asks for. It asks for nothing if it has no word or is a remark. Else it asks to take the plan of a text as the old one or
-- the new one, to take a report, or to take an issue with the plan of a text. Or it asks for a route, the legs between two bounds, the
-- board, or its frame. Or it asks to hear the bytes that a text writes. Or it asks for a world with a number of routers, for an event of
-- the world, or for a command on a row. Or it is bad, for a reason.
pub data Request : Type 0 where
  Skip : Request
  Old : List ℕ → Request
  New : List ℕ → Request
  Report : ReportWords → Request
  Issued : ℕ → List ℕ → Request
  Route : ℕ → Request
  Legs : ℕ → ℕ → Request
  Board : Request
  Hear : List ℕ → Request
  Frame : Request
  World : ℕ → Request
  Happen : EventLine → Request
  Row : RowLine → Request
  Bad : Reason → Request

-- the request, if no word is left
abbrev pub alone : Request → List (List ℕ) → Option Request
alone request [] = Some request
alone request (word ∷ words) = None

-- issued N JSON: the text is the rest after the number
abbrev pub issued_line : List (List ℕ) → List ℕ → Option Request
issued_line words text = option_map (λ (n : ℕ × List (List ℕ)). Issued n.0 (after_first_word text)) (number_first words)

-- route K
abbrev pub route_line : List (List ℕ) → Option Request
route_line words = option_map Route (option_and_then key_of (only_word words))

-- legs LO HI
abbrev pub legs_line : List (List ℕ) → Option Request
legs_line words = option_map (λ (b : ℕ × ℕ). Legs b.0 b.1) (two_bounds words)

-- board
abbrev pub board_line : List (List ℕ) → Option Request
board_line words = alone Board words

-- hear HEX
abbrev pub hear_line : List (List ℕ) → Option Request
hear_line words = option_map Hear (only_word words)

-- frame
abbrev pub frame_line : List (List ℕ) → Option Request
frame_line words = alone Frame words

-- world R
abbrev pub world_line : List (List ℕ) → Option Request
world_line words = option_map World (option_and_then number_of (only_word words))

-- the event of a world that the first word names
abbrev pub happen_line : List ℕ → List (List ℕ) → List ℕ → Option Request
happen_line name words text = option_map Happen (event_line name words text)

-- the event of a world that the first word names, or else the command on a row
abbrev pub event_or_row : Option Request → Option RowLine → Option Request
event_or_row (Some event) row = Some event
event_or_row None row = option_map Row row

abbrev pub act_line : List ℕ → List (List ℕ) → List ℕ → Option Request
act_line name words text = event_or_row (happen_line name words text) (row_line name words text)

-- the report that the first word names, or else what it names in a world
abbrev pub other_line : Option ReportWords → Option Request → Option Request
other_line (Some report) act = Some (Report report)
other_line None act = act

-- `route` takes a key, and in a world a router and a key
abbrev pub route_by : Bool → List ℕ → List (List ℕ) → List ℕ → Option Request
route_by true name words text = happen_line name words text
route_by false name words text = route_line words

-- The request that the first word names. The words after it must have its form. But the text of `old`, `new` and `begin` is the rest of
-- the line, and so are both texts of `begin-from`. That of `issued` is the rest after its number, and that of `put` the rest after its key.
abbrev pub request_by : Bool → List ℕ → List (List ℕ) → List ℕ → Option Request
request_by in_world name words text = if bytes_eq name (codes "old") then Some (Old text)
    else (if bytes_eq name (codes "new") then Some (New text)
    else (if bytes_eq name (codes "issued") then issued_line words text
    else (if bytes_eq name (codes "route") then route_by in_world name words text
    else (if bytes_eq name (codes "legs") then legs_line words
    else (if bytes_eq name (codes "board") then board_line words
    else (if bytes_eq name (codes "hear") then hear_line words
    else (if bytes_eq name (codes "frame") then frame_line words
    else (if bytes_eq name (codes "world") then world_line words
    else other_line (report_line name words) (act_line name words text)))))))))

-- a line without words, or whose first word begins with #, is skipped
abbrev pub of_words : Bool → List (List ℕ) → List ℕ → Request
of_words in_world [] text = Skip
of_words in_world (name ∷ words) text = if slice_index name 0 == 35 then Skip else option_map_or (λ c. c) (request_by in_world name words text) (Bad Word)

-- what a line asks for, its line end taken off, if there is a world or none
abbrev pub request_of : Bool → List ℕ → Request
request_of in_world line = if nat_lt longest_line (length line) then Bad Long else of_words in_world (words_of line) (after_first_word line)
