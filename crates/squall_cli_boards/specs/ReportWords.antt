-- What the words of a report ask for, and what is answered to them (this project's command line).
use Rattle.std.specs.Prelude.{◌≡◌, ◌≤◌, ℕ, List, [], ◌∷◌, drop, ◌==◌, Bool, true, Option, None, Some, is_some, codes, if◌then◌else◌}
use Rattle.std.specs.Option.{option_map, option_and_then}
use Rattle.std.specs.Str.{bytes_eq}
use Rattle.squall_key.specs.Numbers.{number_of}
use Rattle.squall_cli_words.specs.ReportLines.{report_line, report_of}
use Rattle.squall_board.specs.Boards.{report_board}
use Rattle.squall_cli_command.specs.declared.form.Form.TheVariants.{Lines}
use Rattle.squall_cli_boards.specs.declared.report_words.ReportAsked.{ReportAsked}
use Rattle.squall_cli_boards.specs.declared.report_words.ReportAsked.TheVariants as asked
use Rattle.squall_cli_boards.specs.Files.{FileValue}
use Rattle.squall_cli_boards.specs.Answers.{AnswerValue, answer_with, AnswersFirstPlans, ShowsFrames, ShowsIssue}

-- ---- the words

-- the report that the name and the words after it write: of a load, a completion or an opening, as in a scenario
abbrev pub report_in : List ℕ → List (List ℕ) → Option ReportAsked
report_in name rest = option_map (λ report. asked.Report report) (option_and_then report_of (report_line name rest))

abbrev pub issue_numbered : ℕ → Option ReportAsked
issue_numbered number = if number == 0 then None else Some (asked.Issue number)

-- of an issue: its number, and the files of two plans
abbrev pub issue_in : List (List ℕ) → Option ReportAsked
issue_in (number ∷ old ∷ new ∷ []) = option_and_then issue_numbered (number_of number)
issue_in _ = None

-- the report of that name, with the words after it
abbrev pub named_report : List ℕ → List (List ℕ) → Option ReportAsked
named_report name rest = if bytes_eq name (codes "issued") then issue_in rest else report_in name rest

-- the report that words ask for, if they are one and its numbers lie within their limits
abbrev pub report_asked : List (List ℕ) → Option ReportAsked
report_asked [] = None
report_asked (name ∷ rest) = named_report name rest

abbrev pub is_report : List (List ℕ) → Bool
is_report words = is_some (report_asked words)

-- an issue has a number of at least 1
abbrev pub HasNumber : ReportAsked → Type 0
HasNumber (asked.Report report) = Unit {0}
HasNumber (asked.Issue number) = 1 ≤ number

-- the names of the files that a report needs: the plans of an issue
abbrev pub files_of_report : List (List ℕ) → List (List ℕ)
files_of_report [] = []
files_of_report (name ∷ rest) = if bytes_eq name (codes "issued") then drop 1 rest else []

-- ---- the answer

-- what is answered of files to the report that words ask for: its frames; words that are no report are refused without a line
abbrev pub AnswersReport : Option ReportAsked → List FileValue → AnswerValue → Type 0
AnswersReport (Some (asked.Report report)) files a = ShowsFrames (report_board report) a
AnswersReport (Some (asked.Issue number)) files a = AnswersFirstPlans Lines (ShowsIssue number) files a
AnswersReport None files a = a ≡ answer_with [] true
