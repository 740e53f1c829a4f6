-- What is answered of a plan with keys at other partitions, and of names of rows (this project's command line).
use Rattle.std.specs.Prelude.{◌≡◌, ◌⊎◌, ℕ, ◌<◌, List, [], ◌∷◌, ◌++◌, length, nat_lt, false, Vec, Option, None, Some, Result, Ok, Err, codes, if◌then◌else◌}
use Rattle.std.specs.List.{flat_map}
use Rattle.std.specs.Fmt.{decimal}
use Rattle.std.specs.Global.{Global}
use Rattle.std.specs.Option.{option_and_then}
use Rattle.squall_key.specs.Numbers.{number_of}
use Rattle.squall_key.specs.Keys.{part_limit, text_of_bound, text_of_key}
use Rattle.squall_keymap.specs.KeyMap.{key_of_bytes}
use Rattle.squall_span.specs.Spans.{Interval}
use Rattle.squall_plan.specs.declared.range.PlanRange.{PlanRange}
use Rattle.squall_plan.specs.declared.fault.PlanFault.{PlanFault}
use Rattle.squall_plan.specs.Arranged.{range_limit}
use Rattle.squall_plan.specs.Form.{plan_of_text}
use Rattle.squall_plan.specs.PlanText.{text_of_plan}
use Rattle.squall_plan_edit.specs.Moved.{owner_after, HasOwners}
use Rattle.squall_plan_edit.specs.Apart.{apart}
use Rattle.squall_cli_command.specs.declared.form.Form.TheVariants.{Lines}
use Rattle.squall_cli_boards.specs.declared.words.BadWord.{BadWord}
use Rattle.squall_cli_boards.specs.declared.words.WordFault.TheVariants.{NoPart}
use Rattle.squall_cli_boards.specs.Files.{FileValue}
use Rattle.squall_cli_boards.specs.Answers.{AnswerValue, answer_with, refusing, refusing_plan, bytes_at}
use Rattle.squall_cli_boards.specs.BadWords.{BadValue, bad_words, bad_seen, written, span_in, refusing_words}

-- ---- what words write

abbrev pub part_numbered : ℕ → Option ℕ
part_numbered n = if nat_lt n part_limit then Some n else None

abbrev pub part_of_word : List ℕ → Option ℕ
part_of_word word = option_and_then part_numbered (number_of word)

-- the partition that a word writes
abbrev pub part_in : List ℕ → Result ℕ BadValue
part_in word = written (part_of_word word) (word ∷ []) NoPart

abbrev pub piece_of : Result Interval BadValue → Result ℕ BadValue → Result PlanRange BadValue
piece_of (Ok span) (Ok part) = Ok (record { span = span; part = part })
piece_of (Ok span) (Err bad) = Err bad
piece_of (Err bad) part = Err bad

-- the range of keys, and its partition, that three words write
abbrev pub piece_in : List ℕ → List ℕ → List ℕ → Result PlanRange BadValue
piece_in from to part = piece_of (span_in from to) (part_in part)

-- values behind others, or why a word is refused
abbrev pub after_parts : {X : Type 0} → List X → Result (List X) BadValue → Result (List X) BadValue
after_parts before (Ok parts) = Ok (before ++ parts)
after_parts before (Err bad) = Err bad

-- a range and those that the words after it write, or why the first word that is refused is
abbrev pub piece_first : Result PlanRange BadValue → Result (List PlanRange) BadValue → Result (List PlanRange) BadValue
piece_first (Ok range) parts = after_parts (range ∷ []) parts
piece_first (Err bad) parts = Err bad

-- the ranges that words write, three words each: fewer words at the end have no partition
abbrev pub parts_of_words : List (List ℕ) → Result (List PlanRange) BadValue
parts_of_words [] = Ok []
parts_of_words (from ∷ to ∷ part ∷ words) = piece_first (piece_in from to part) (parts_of_words words)
parts_of_words (from ∷ to ∷ []) = Err (bad_words (from ∷ to ∷ []) NoPart)
parts_of_words (from ∷ []) = Err (bad_words (from ∷ []) NoPart)

-- values, or why words are refused, without where the words lie in memory
abbrev pub parts_seen : {X : Type 0} → Result (Vec X Global) BadWord → Result (List X) BadValue
parts_seen (Ok parts) = Ok parts.items
parts_seen (Err b) = Err (bad_seen b)

-- ---- `plan`

-- the text of a plan, as a line
abbrev pub plan_answer : List PlanRange → AnswerValue
plan_answer plan = answer_with (text_of_plan plan ++ codes "\n") false

-- the plan that has each key at the partition that the function says; or that it would have too many ranges
abbrev pub ShowsOwners : (ℕ → ℕ) → AnswerValue → Type 0
ShowsOwners to_part a =
    ((plan : List PlanRange) × HasOwners to_part plan × (a ≡ plan_answer plan))
    ⊎ ((a ≡ refusing (codes "refused plan Many\n")) × ((plan : List PlanRange) → HasOwners to_part plan → range_limit < length plan))

-- the plan in which ranges are given away, from the first to the last
abbrev pub ShowsPlan : List PlanRange → List PlanRange → AnswerValue → Type 0
ShowsPlan old given a = ShowsOwners (owner_after given old) a

-- the plan in which the ranges of the words are given away, or what refuses a word
abbrev pub AnswersParts : List PlanRange → Result (List PlanRange) BadValue → AnswerValue → Type 0
AnswersParts old (Ok given) a = ShowsPlan old given a
AnswersParts old (Err bad) a = a ≡ refusing_words Lines bad

-- the same of a plan that was read, or what refuses the plan
abbrev pub AnswersOld : Result (List PlanRange) PlanFault → Result (List PlanRange) BadValue → AnswerValue → Type 0
AnswersOld (Ok old) parts a = AnswersParts old parts a
AnswersOld (Err fault) parts a = a ≡ refusing_plan Lines (codes "old") fault

-- the same of the first file
abbrev pub AnswersPlan : List (List ℕ) → List FileValue → AnswerValue → Type 0
AnswersPlan words files a = AnswersOld (plan_of_text (bytes_at files 0)) (parts_of_words words) a

-- ---- `diff`

-- the keys of a range and their partition, as words of `plan`
abbrev pub range_words : PlanRange → List ℕ
range_words r = text_of_bound r.span.lo ++ (codes " " ++ (text_of_bound r.span.hi ++ (codes " " ++ (decimal r.part ++ codes "\n"))))

-- the same of ranges, a line each
abbrev pub range_lines : List PlanRange → List ℕ
range_lines rs = flat_map range_words rs

-- the ranges of keys that go to other partitions between two plans, as words of `plan`
abbrev pub ShowsApart : List PlanRange → List PlanRange → AnswerValue → Type 0
ShowsApart old new a = a ≡ answer_with (range_lines (apart old new)) false

-- ---- `key`

-- the keys of rows by their names, a line each
abbrev pub key_lines : List (List ℕ) → List ℕ
key_lines names = flat_map (λ name. text_of_key (key_of_bytes name) ++ codes "\n") names

abbrev pub names_answer : List (List ℕ) → AnswerValue
names_answer names = answer_with (key_lines names) false
