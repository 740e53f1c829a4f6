-- What is answered of logs (this project's command line).
use Rattle.std.specs.Prelude.{◌≡◌, ◌⊎◌, ℕ, List, drop, map, Bool, true, false}
use Rattle.squall_plan.specs.declared.range.PlanRange.{PlanRange}
use Rattle.squall_cli_lines.specs.declared.Ended.{Ended}
use Rattle.squall_cli_lines.specs.declared.Ended.TheVariants.{Fine, Refused}
use Rattle.squall_cli_command.specs.declared.form.Form.TheVariants.{Lines}
use Rattle.squall_cli_command.specs.declared.inquiry.Inquiry.{Inquiry}
use Rattle.squall_cli_command.specs.declared.inquiry.Inquiry.TheVariants.{Audit}
use Rattle.squall_cli_boards.specs.Files.{FileValue}
use Rattle.squall_cli_boards.specs.Answers.{AnswerValue, answer_with, AnswersFirstPlans}
use Rattle.squall_cli_boards.specs.Inquiries.{IsAnswerTo}
use Rattle.squall_cli_audit.specs.LogFiles.{FileValue as LogValue, file_with}
use Rattle.squall_cli_audit.specs.Audits.{MayShow}

-- a file that was read, as that of a log
abbrev pub log_file : FileValue → LogValue
log_file f = file_with f.name f.bytes

abbrev pub is_refused : Ended → Bool
is_refused Fine = false
is_refused Refused = true

-- what an audit of the logs in the files shows, if the course from the one plan to the other is the first: it refuses what was given unless
-- a run has these logs
abbrev pub ShowsAudit : List FileValue → List PlanRange → List PlanRange → AnswerValue → Type 0
ShowsAudit files old new a = (ended : Ended) × (shown : List ℕ) × MayShow old new (map log_file files) ended shown × (a ≡ answer_with shown (is_refused ended))

-- the plans are those of the first two files, and the logs those of the others
abbrev pub AnswersAudit : List FileValue → AnswerValue → Type 0
AnswersAudit files a = AnswersFirstPlans Lines (ShowsAudit (drop 2 files)) files a

-- what is answered to an inquiry with some words about files: of logs an audit, and all else as of board files
abbrev pub IsAnswerFor : Inquiry → List (List ℕ) → List FileValue → AnswerValue → Type 0
IsAnswerFor asked words files a = IsAnswerTo asked words files a ⊎ ((asked ≡ Audit) × AnswersAudit files a)
