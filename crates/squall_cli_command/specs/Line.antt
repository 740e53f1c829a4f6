-- The command line, as `clap` defines simple commands.
use Rattle.std.specs.Prelude.{◌≡◌, ℕ, Bool, true, false, not, IsTrue, List, [], ◌∷◌, ◌++◌}
use Rattle.std.specs.Prelude.{Option, Some, None, unwrap_or, codes, map, string_bytes, if◌then◌else◌}
use Rattle.std.specs.List.{list_any}
use Rattle.std.specs.Option.{option_map_or}
use Rattle.std.specs.Str.{bytes_eq}
use Rattle.std.specs.Borrow.{Bor}
use Rattle.clap.specs.Words.{App, Shape, Row, Text, Kinds, new_app, with_rule, with_subcommand, subcommand_of, first_of, fault_of}
use Rattle.clap.specs.Simple.{on_top}
use Rattle.clap.specs.declared.error.kind.ErrorKind.{ErrorKind}
use Rattle.clap.specs.declared.error.kind.ErrorKind.TheVariants.{DisplayHelp, DisplayVersion}
use Rattle.squall_cli_command.specs.declared.task.Task.{Task}
use Rattle.squall_cli_command.specs.declared.task.Task.TheVariants.{Check, Course, Run, Race, Ask, Stream as StreamTask}
use Rattle.squall_cli_command.specs.declared.form.Form.{Form}
use Rattle.squall_cli_command.specs.declared.inquiry.Inquiry.{Inquiry}
use Rattle.squall_cli_command.specs.Rules.{file_rule, flag_rule}
use Rattle.squall_cli_command.specs.Asking.{report_shape, board_shape, status_shape, picture_shape, watch_shape, route_shape, legs_shape, merge_shape, beyond_shape, digest_shape, repair_shape}
use Rattle.squall_cli_command.specs.Asking.{plan_shape, split_shape, diff_shape, key_shape, audit_shape}
use Rattle.squall_cli_command.specs.Asking.{form_in, inquiry_in, word_arguments, file_arguments, words_in}
use Rattle.squall_cli_command.specs.declared.stream.Stream.{Stream}
use Rattle.squall_cli_command.specs.Streams.{stream_in, stream_files}

abbrev pub check_shape : Shape
check_shape = (with_rule (with_rule (new_app (codes "check")) (file_rule (codes "PLAN"))) (flag_rule (codes "json"))).top

abbrev pub course_shape : Shape
course_shape = (with_rule (with_rule (with_rule (new_app (codes "course")) (file_rule (codes "OLD"))) (file_rule (codes "NEW"))) (flag_rule (codes "json"))).top

abbrev pub run_shape : Shape
run_shape = (with_rule (new_app (codes "run")) (file_rule (codes "FILE"))).top

abbrev pub race_shape : Shape
race_shape = (with_rule (new_app (codes "race")) (file_rule (codes "FILE"))).top

-- the program without its commands: it has a version, and no command `help` of `clap`'s
abbrev pub program_app : App
program_app = on_top (λ s. record s { has_version = true; disable_help_subcommand = true }) (new_app (codes "squall"))

-- the commands about plans: `check PLAN` and `course OLD NEW`
abbrev pub plans_app : App
plans_app = with_subcommand (with_subcommand program_app check_shape) course_shape

-- and those of scenarios and races: `run FILE` and `race FILE`
abbrev pub runs_app : App
runs_app = with_subcommand (with_subcommand plans_app run_shape) race_shape

-- and those of one board: `report WORD..` and `board FILE..`
abbrev pub reports_app : App
reports_app = with_subcommand (with_subcommand runs_app report_shape) board_shape

-- and those of the newest course: `status OLD NEW [FILE..]` and `picture OLD NEW [FILE..]`, both with `--board FILE`
abbrev pub courses_app : App
courses_app = with_subcommand (with_subcommand reports_app status_shape) picture_shape

-- and that of the same as frames come: `watch OLD NEW [--json]`
abbrev pub watch_app : App
watch_app = with_subcommand courses_app watch_shape

-- and those of its routes: `route OLD NEW [KEY].. [--name]` and `legs OLD NEW [BOUND..]`, both with `--board FILE`
abbrev pub routes_app : App
routes_app = with_subcommand (with_subcommand watch_app route_shape) legs_shape

-- and those of several boards: `merge FILE..` and `beyond A B`
abbrev pub boards_app : App
boards_app = with_subcommand (with_subcommand routes_app merge_shape) beyond_shape

-- and those of digests: `digest A` and `repair A DIGEST`
abbrev pub digests_app : App
digests_app = with_subcommand (with_subcommand boards_app digest_shape) repair_shape

-- and those of a plan, `plan OLD FROM TO PART..`, and of names, `key NAME..`
abbrev pub names_app : App
names_app = with_subcommand (with_subcommand digests_app plan_shape) key_shape

-- and those of other plans: `split BELOW PART..` and `diff OLD NEW`
abbrev pub edits_app : App
edits_app = with_subcommand (with_subcommand names_app split_shape) diff_shape

-- all commands: also that of logs, `audit OLD NEW LOG..`
abbrev pub squall_app : App
squall_app = with_subcommand edits_app audit_shape

-- `help` and what follows it are read as what follows it and `--help`: `help run` as `run --help`
abbrev pub plain_words : List Text → List Text
plain_words [] = []
plain_words (name ∷ []) = name ∷ []
plain_words (name ∷ word ∷ rest) =
    if bytes_eq word (codes "help") then name ∷ (rest ++ codes "--help" ∷ []) else name ∷ word ∷ rest

-- a task without where its names lie in memory
pub data Job : Type 0 where
  check : Form → List ℕ → Job
  course : Form → List ℕ → List ℕ → Job
  run : List ℕ → Job
  race : List ℕ → Job
  ask : Inquiry → List (List ℕ) → List (List ℕ) → Job
  stream : Stream → List (List ℕ) → Job

abbrev pub job_seen : Task → Job
job_seen (Check form plan) = check form (string_bytes plan)
job_seen (Course form old new) = course form (string_bytes old) (string_bytes new)
job_seen (Run file) = run (string_bytes file)
job_seen (Race file) = race (string_bytes file)
job_seen (Ask asked) = ask asked.inquiry (map string_bytes asked.words.items) (map string_bytes asked.files.items)
job_seen (StreamTask followed) = stream followed.stream (map string_bytes followed.files.items)

-- the file that stands for an argument: words without one that has to be there have a fault
abbrev pub file_in : Text → List Row → List ℕ
file_in id rows = unwrap_or (first_of id rows) []

-- the job of the name and the entries of a command that is no inquiry
abbrev pub file_job_in : Text → List Row → Job
file_job_in name rows =
    if bytes_eq name (codes "check") then check (form_in rows) (file_in (codes "PLAN") rows)
    else (if bytes_eq name (codes "course") then course (form_in rows) (file_in (codes "OLD") rows) (file_in (codes "NEW") rows)
    else (if bytes_eq name (codes "race") then race (file_in (codes "FILE") rows)
    else run (file_in (codes "FILE") rows)))

-- the job of the name and the entries of a command that asks nothing of standard input as it comes
abbrev pub plain_job_in : Text → List Row → Job
plain_job_in name rows = option_map_or (λ inquiry. ask inquiry (words_in (word_arguments inquiry) rows) (words_in (file_arguments inquiry) rows)) (inquiry_in name rows) (file_job_in name rows)

-- the job of a command's name and entries
abbrev pub job_in : Text → List Row → Job
job_in name rows = option_map_or (λ kind. stream kind (words_in (stream_files kind) rows)) (stream_in name rows) (plain_job_in name rows)

-- without a command it is to run standard input
abbrev pub job_of : Option (Text × List Row) → Job
job_of None = run (codes "-")
job_of (Some p) = job_in p.0 p.1

abbrev pub words_of : List (Bor (List ℕ)) → List Text
words_of words = map (λ w. w.now) words

-- the kinds of the first fault that `clap` finds in the words
abbrev pub faults_in : List Text → Kinds
faults_in words = fault_of squall_app (plain_words words)

-- the kind of fault that asks for help or for the version
abbrev pub shows_help : ErrorKind → Bool
shows_help DisplayHelp = true
shows_help DisplayVersion = true
shows_help _ = false

-- the words have no fault, and ask for the job
abbrev pub Asks : List Text → Job → Type 0
Asks words job = (faults_in words ≡ []) × (job_of (subcommand_of squall_app (plain_words words)) ≡ job)

-- the words ask for help or for the version, before any other fault
abbrev pub AsksForHelp : List Text → Type 0
AsksForHelp words = IsTrue (list_any shows_help (faults_in words))

-- the words have a fault, and it is no request for help
abbrev pub IsFaulty : List Text → Type 0
IsFaulty words = IsTrue (list_any (λ kind. not (shows_help kind)) (faults_in words))
