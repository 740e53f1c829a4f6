-- The commands over files and words, as `clap` defines simple commands, and what they ask.
use Rattle.std.specs.Prelude.{Bool, false, List, [], ◌∷◌, Option, Some, None, unwrap_or, codes, if◌then◌else◌}
use Rattle.std.specs.List.{flat_map}
use Rattle.std.specs.Option.{option_map_or}
use Rattle.std.specs.Str.{bytes_eq}
use Rattle.clap.specs.Words.{App, Shape, Row, Text, new_app, with_rule, first_of, all_of}
use Rattle.squall_cli_command.specs.declared.inquiry.Inquiry.{Inquiry}
use Rattle.squall_cli_command.specs.declared.inquiry.StatusAsk.{StatusAsk}
use Rattle.squall_cli_command.specs.declared.inquiry.Inquiry.TheVariants.{Report, Board, Status, Picture, Routes, NamedRoutes, Legs, Merge, Beyond, Cover, Digest, Repair, Plan, Split, Diff, Names, Audit}
use Rattle.squall_cli_command.specs.declared.form.Form.{Form}
use Rattle.squall_cli_command.specs.declared.form.Form.TheVariants.{Lines, Json}
use Rattle.squall_cli_command.specs.Rules.{file_rule, words_rule, files_rule, option_rule, flag_rule}

-- ---- the commands

abbrev pub report_shape : Shape
report_shape = (with_rule (new_app (codes "report")) (words_rule (codes "WORD"))).top

abbrev pub board_shape : Shape
board_shape = (with_rule (with_rule (new_app (codes "board")) (words_rule (codes "FILE"))) (flag_rule (codes "json"))).top

-- a command of two plans, without what may follow: `NAME OLD NEW`
abbrev pub of_plans : Text → App
of_plans name = with_rule (with_rule (new_app name) (file_rule (codes "OLD"))) (file_rule (codes "NEW"))

-- a command of two plans and board files, without what may follow: `NAME OLD NEW [FILE..] [--board FILE]..`
abbrev pub of_boards : Text → App
of_boards name = with_rule (with_rule (of_plans name) (files_rule (codes "FILE"))) (option_rule (codes "board"))

abbrev pub status_shape : Shape
status_shape = (with_rule (with_rule (with_rule (of_boards (codes "status")) (flag_rule (codes "waiting"))) (flag_rule (codes "json"))) (flag_rule (codes "exit-status"))).top

abbrev pub picture_shape : Shape
picture_shape = (of_boards (codes "picture")).top

abbrev pub watch_shape : Shape
watch_shape = (with_rule (with_rule (of_plans (codes "watch")) (flag_rule (codes "json"))) (flag_rule (codes "until-complete"))).top

abbrev pub route_shape : Shape
route_shape = (with_rule (with_rule (with_rule (of_plans (codes "route")) (files_rule (codes "KEY"))) (option_rule (codes "board"))) (flag_rule (codes "name"))).top

abbrev pub legs_shape : Shape
legs_shape = (with_rule (with_rule (with_rule (of_plans (codes "legs")) (files_rule (codes "BOUND"))) (option_rule (codes "board"))) (flag_rule (codes "json"))).top

abbrev pub merge_shape : Shape
merge_shape = (with_rule (new_app (codes "merge")) (words_rule (codes "FILE"))).top

abbrev pub beyond_shape : Shape
beyond_shape = (with_rule (with_rule (with_rule (new_app (codes "beyond")) (file_rule (codes "A"))) (file_rule (codes "B"))) (flag_rule (codes "quiet"))).top

abbrev pub digest_shape : Shape
digest_shape = (with_rule (new_app (codes "digest")) (file_rule (codes "A"))).top

abbrev pub repair_shape : Shape
repair_shape = (with_rule (with_rule (new_app (codes "repair")) (file_rule (codes "A"))) (file_rule (codes "DIGEST"))).top

-- the command of one plan and a span, without what may follow: `plan OLD FROM TO`
abbrev pub of_span : App
of_span = with_rule (with_rule (with_rule (new_app (codes "plan")) (file_rule (codes "OLD"))) (file_rule (codes "FROM"))) (file_rule (codes "TO"))

abbrev pub plan_shape : Shape
plan_shape = (with_rule of_span (words_rule (codes "PART"))).top

abbrev pub split_shape : Shape
split_shape = (with_rule (with_rule (new_app (codes "split")) (file_rule (codes "BELOW"))) (words_rule (codes "PART"))).top

abbrev pub diff_shape : Shape
diff_shape = (of_plans (codes "diff")).top

abbrev pub key_shape : Shape
key_shape = (with_rule (new_app (codes "key")) (words_rule (codes "NAME"))).top

abbrev pub audit_shape : Shape
audit_shape = (with_rule (of_plans (codes "audit")) (words_rule (codes "LOG"))).top

-- ---- what they ask

-- the flag is among the entries
abbrev pub is_set : Text → List Row → Bool
is_set id rows = option_map_or (λ value. bytes_eq value (codes "true")) (first_of id rows) false

-- how the entries ask for the answer
abbrev pub form_in : List Row → Form
form_in rows = if is_set (codes "json") rows then Json else Lines

-- the status in that form, of all moves or of those that are not complete, and whether the exit status judges the course
abbrev pub status_asked : Form → Bool → Bool → StatusAsk
status_asked form waiting judged = record { form = form; is_waiting = waiting; is_judged = judged }

-- how the entries ask for the status of a course
abbrev pub status_in : List Row → StatusAsk
status_in rows = status_asked (form_in rows) (is_set (codes "waiting") rows) (is_set (codes "exit-status") rows)

-- what a command's name asks of plans, of names, or of logs: nothing if it is another command
abbrev pub other_in : Text → Option Inquiry
other_in name =
    if bytes_eq name (codes "plan") then Some Plan
    else (if bytes_eq name (codes "split") then Some Split
    else (if bytes_eq name (codes "diff") then Some Diff
    else (if bytes_eq name (codes "key") then Some Names
    else (if bytes_eq name (codes "audit") then Some Audit
    else None))))

-- what a command's name and entries ask of boards as frames, or of plans, names or logs: nothing if it is another command
abbrev pub exchange_in : Text → List Row → Option Inquiry
exchange_in name rows =
    if bytes_eq name (codes "merge") then Some Merge
    else (if bytes_eq name (codes "beyond") then Some (if is_set (codes "quiet") rows then Cover else Beyond)
    else (if bytes_eq name (codes "digest") then Some Digest
    else (if bytes_eq name (codes "repair") then Some Repair
    else other_in name)))

-- what they ask of files and words: nothing if it is another command
abbrev pub inquiry_in : Text → List Row → Option Inquiry
inquiry_in name rows =
    if bytes_eq name (codes "report") then Some Report
    else (if bytes_eq name (codes "board") then Some (Board (form_in rows))
    else (if bytes_eq name (codes "status") then Some (Status (status_in rows))
    else (if bytes_eq name (codes "picture") then Some Picture
    else (if bytes_eq name (codes "route") then Some (if is_set (codes "name") rows then NamedRoutes else Routes)
    else (if bytes_eq name (codes "legs") then Some (Legs (form_in rows))
    else exchange_in name rows)))))

-- the arguments of an inquiry that are no files: the words of a report, keys, names, bounds or partitions
abbrev pub word_arguments : Inquiry → List Text
word_arguments Report = codes "WORD" ∷ []
word_arguments (Board form) = []
word_arguments (Status how) = []
word_arguments Picture = []
word_arguments Routes = codes "KEY" ∷ []
word_arguments NamedRoutes = codes "KEY" ∷ []
word_arguments (Legs form) = codes "BOUND" ∷ []
word_arguments Merge = []
word_arguments Beyond = []
word_arguments Cover = []
word_arguments Digest = []
word_arguments Repair = []
word_arguments Plan = codes "FROM" ∷ codes "TO" ∷ codes "PART" ∷ []
word_arguments Split = codes "BELOW" ∷ codes "PART" ∷ []
word_arguments Diff = []
word_arguments Names = codes "NAME" ∷ []
word_arguments Audit = []

-- its arguments that are files, in the order in which they are read
abbrev pub file_arguments : Inquiry → List Text
file_arguments Report = []
file_arguments (Board form) = codes "FILE" ∷ []
file_arguments (Status how) = codes "OLD" ∷ codes "NEW" ∷ codes "FILE" ∷ codes "board" ∷ []
file_arguments Picture = codes "OLD" ∷ codes "NEW" ∷ codes "FILE" ∷ codes "board" ∷ []
file_arguments Routes = codes "OLD" ∷ codes "NEW" ∷ codes "board" ∷ []
file_arguments NamedRoutes = codes "OLD" ∷ codes "NEW" ∷ codes "board" ∷ []
file_arguments (Legs form) = codes "OLD" ∷ codes "NEW" ∷ codes "board" ∷ []
file_arguments Merge = codes "FILE" ∷ []
file_arguments Beyond = codes "A" ∷ codes "B" ∷ []
file_arguments Cover = codes "A" ∷ codes "B" ∷ []
file_arguments Digest = codes "A" ∷ []
file_arguments Repair = codes "A" ∷ codes "DIGEST" ∷ []
file_arguments Plan = codes "OLD" ∷ []
file_arguments Split = []
file_arguments Diff = codes "OLD" ∷ codes "NEW" ∷ []
file_arguments Names = []
file_arguments Audit = codes "OLD" ∷ codes "NEW" ∷ codes "LOG" ∷ []

-- the words that stand for an argument
abbrev pub values_in : Text → List Row → List Text
values_in id rows = unwrap_or (all_of id rows) []

-- the words that stand for the arguments, in their order
abbrev pub words_in : List Text → List Row → List Text
words_in ids rows = flat_map (λ id. values_in id rows) ids
