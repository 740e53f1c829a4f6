-- What is answered to an inquiry about files (this project's command line).
use Rattle.std.specs.Prelude.{◌≡◌, ℕ, List, take, drop}
use Rattle.squall_cli_command.specs.declared.inquiry.Inquiry.{Inquiry}
use Rattle.squall_cli_command.specs.declared.inquiry.Inquiry.TheVariants as inquiry
use Rattle.squall_cli_command.specs.declared.form.Form.TheVariants.{Lines}
use Rattle.squall_cli_boards.specs.Files.{FileValue, board_of_files, files_joined}
use Rattle.squall_cli_boards.specs.Answers.{AnswerValue, AnswersFor, AnswersIn, AnswersBoth, AnswersRepair, AnswersFirstPlans}
use Rattle.squall_cli_boards.specs.Answers.{ShowsBoard, ShowsFrames, ShowsDigest, ShowsBeyond, ShowsCover}
use Rattle.squall_cli_boards.specs.Courses.{shown_as, ShowsStatus, ShowsPicture, ShowsRoutes, ShowsNamedRoutes, ShowsLegs, AnswersNewest}
use Rattle.squall_cli_boards.specs.Planned.{AnswersPlan, ShowsApart, names_answer}
use Rattle.squall_cli_boards.specs.Shared.{AnswersSplit}
use Rattle.squall_cli_boards.specs.ReportWords.{report_asked, AnswersReport}

-- What is answered to an inquiry with some words about files, in their order: only for a report, routes, legs, a plan, shares and keys do the
-- words count. Logs are not judged here.
abbrev pub IsAnswerTo : Inquiry → List (List ℕ) → List FileValue → AnswerValue → Type 0
IsAnswerTo inquiry.Report words files a = AnswersReport (report_asked words) files a
IsAnswerTo (inquiry.Board form) words files a = AnswersIn form (ShowsBoard form) (files_joined files) a
IsAnswerTo (inquiry.Status how) words files a = AnswersNewest how.form (ShowsStatus how.form (shown_as how)) files a
IsAnswerTo inquiry.Picture words files a = AnswersNewest Lines ShowsPicture files a
IsAnswerTo inquiry.Routes words files a = AnswersNewest Lines (ShowsRoutes words) files a
IsAnswerTo inquiry.NamedRoutes words files a = AnswersNewest Lines (ShowsNamedRoutes words) files a
IsAnswerTo (inquiry.Legs form) words files a = AnswersNewest form (ShowsLegs form words) files a
IsAnswerTo inquiry.Merge words files a = AnswersFor ShowsFrames (board_of_files files) a
IsAnswerTo inquiry.Beyond words files a = AnswersFor (AnswersBoth ShowsBeyond (drop 1 files)) (board_of_files (take 1 files)) a
IsAnswerTo inquiry.Cover words files a = AnswersFor (AnswersBoth ShowsCover (drop 1 files)) (board_of_files (take 1 files)) a
IsAnswerTo inquiry.Digest words files a = AnswersFor ShowsDigest (board_of_files files) a
IsAnswerTo inquiry.Repair words files a = AnswersFor (AnswersRepair (drop 1 files)) (board_of_files (take 1 files)) a
IsAnswerTo inquiry.Plan words files a = AnswersPlan words files a
IsAnswerTo inquiry.Split words files a = AnswersSplit words a
IsAnswerTo inquiry.Diff words files a = AnswersFirstPlans Lines ShowsApart files a
IsAnswerTo inquiry.Names words files a = a ≡ names_answer words
IsAnswerTo inquiry.Audit words files a = ⊥
