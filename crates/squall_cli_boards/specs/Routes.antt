-- What is answered of routes and legs (this project's command line).
use Rattle.std.specs.Prelude.{ℕ, List, [], ◌∷◌, ◌++◌, false, Result, Ok, Err, codes}
use Rattle.std.specs.List.{flat_map}
use Rattle.std.specs.Fmt.{decimal}
use Rattle.squall_key.specs.Keys.{top}
use Rattle.squall_keymap.specs.KeyMap.{key_of_bytes}
use Rattle.squall_span.specs.Spans.{Interval, interval}
use Rattle.squall_table.specs.Tables.{legs_between}
use Rattle.squall_cli_words.specs.RouteText.{route_text, leg_lines}
use Rattle.squall_plan.specs.declared.range.PlanRange.{PlanRange}
use Rattle.squall_cli_command.specs.declared.form.Form.{Form}
use Rattle.squall_cli_command.specs.declared.form.Form.TheVariants.{Lines, Json}
use Rattle.squall_cli_json.specs.Values.{json_line, json_of_legs}
use Rattle.squall_cli_boards.specs.declared.words.WordFault.TheVariants.{NoSpan}
use Rattle.squall_cli_boards.specs.Answers.{AnswerValue, answer_of, answer_with}
use Rattle.squall_cli_boards.specs.BadWords.{BadValue, bad_words, key_in, span_in, refusing_words}

-- ---- routes

-- what stands after a text
abbrev pub after_text : List ℕ → AnswerValue → AnswerValue
after_text text a = answer_of (text ++ a.text) a.refused a.incomplete

-- what is answered to a word, and after it: a word that is no key is refused, and ends the answer
abbrev pub key_answer : (ℕ → ℕ) → Result ℕ BadValue → AnswerValue → AnswerValue
key_answer to_part (Ok key) rest = after_text (route_text key (to_part key)) rest
key_answer to_part (Err bad) rest = refusing_words Lines bad

-- the partition to ask for each key, in the order of the words
abbrev pub routes_answer : (ℕ → ℕ) → List (List ℕ) → AnswerValue
routes_answer to_part [] = answer_with [] false
routes_answer to_part (word ∷ words) = key_answer to_part (key_in word) (routes_answer to_part words)

-- ---- routes of rows

-- the line of a row by its name, and the partition to ask for it
abbrev pub named_text : List ℕ → ℕ → List ℕ
named_text name part = codes "route " ++ (name ++ (codes " " ++ (decimal part ++ codes "\n")))

-- the same if the partition is that of its key
abbrev pub named_line : (ℕ → ℕ) → List ℕ → List ℕ
named_line to_part name = named_text name (to_part (key_of_bytes name))

abbrev pub named_lines : (ℕ → ℕ) → List (List ℕ) → List ℕ
named_lines to_part names = flat_map (named_line to_part) names

-- the same for each row, in the order of the names
abbrev pub named_routes_answer : (ℕ → ℕ) → List (List ℕ) → AnswerValue
named_routes_answer to_part names = answer_with (named_lines to_part names) false

-- ---- legs

-- the span that the words ask for: that of two bounds, or without words that of all keys; or why words are refused
abbrev pub span_asked : List (List ℕ) → Result Interval BadValue
span_asked [] = Ok (interval 0 top)
span_asked (lo ∷ hi ∷ []) = span_in lo hi
span_asked (word ∷ []) = Err (bad_words (word ∷ []) NoSpan)
span_asked (word ∷ other ∷ another ∷ words) = Err (bad_words (word ∷ other ∷ another ∷ words) NoSpan)

-- legs, as lines or as JSON
abbrev pub legs_in : Form → List PlanRange → List ℕ
legs_in Lines legs = leg_lines legs
legs_in Json legs = json_line (json_of_legs legs)

-- the legs of the span
abbrev pub legs_answer : Form → (ℕ → ℕ) → Result Interval BadValue → AnswerValue
legs_answer form to_part (Ok span) = answer_with (legs_in form (legs_between to_part span.lo span.hi)) false
legs_answer form to_part (Err bad) = refusing_words form bad
