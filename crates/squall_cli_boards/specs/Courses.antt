-- What is answered of the newest course of two plans and of board files (this project's command line).
use Rattle.std.specs.Prelude.{◌≡◌, ℕ, List, Bool, false, not, Result, Ok, Err, if◌then◌else◌}
use Rattle.std.specs.List.{list_all}
use Rattle.squall_course.specs.Change.{Change}
use Rattle.squall_board.specs.Boards.{BoardValue, says}
use Rattle.squall_board.specs.Route.{route}
use Rattle.squall_status.specs.declared.text.Shown.{Shown}
use Rattle.squall_status.specs.declared.text.Shown.TheVariants.{EachMove, Waiting}
use Rattle.squall_status.specs.Coming.{is_complete}
use Rattle.squall_status.specs.Summary.{StatusValue, IsStatusOf}
use Rattle.squall_status.specs.Texts.{status_text}
use Rattle.squall_picture.specs.Picture.{IsPictureOf}
use Rattle.squall_cli_command.specs.declared.form.Form.{Form}
use Rattle.squall_cli_command.specs.declared.form.Form.TheVariants.{Lines, Json}
use Rattle.squall_cli_command.specs.declared.inquiry.StatusAsk.{StatusAsk}
use Rattle.squall_cli_json.specs.Values.{json_line, json_of_status}
use Rattle.squall_cli_boards.specs.Files.{FileValue}
use Rattle.squall_cli_boards.specs.Answers.{AnswerValue, answer_of, answer_with}
use Rattle.squall_cli_boards.specs.Known.{KnownValue, newest_of}
use Rattle.squall_cli_boards.specs.Routes.{routes_answer, named_routes_answer, legs_answer, span_asked}

-- how far a course has come, as lines or as JSON
abbrev pub status_in : Form → Shown → StatusValue → List ℕ
status_in Lines shown s = status_text shown s
status_in Json shown s = json_line (json_of_status shown s)

-- each move of the course is complete
abbrev pub all_complete : StatusValue → Bool
all_complete s = list_all (λ m. is_complete m.progress) s.moves

-- `status`: how far the course has come, as the board says
abbrev pub ShowsStatus : Form → Shown → Change → BoardValue → AnswerValue → Type 0
ShowsStatus form shown c b a = (s : StatusValue) × IsStatusOf c (says b) s × (a ≡ answer_of (status_in form shown s) false (not (all_complete s)))

-- which moves are shown
abbrev pub shown_as : StatusAsk → Shown
shown_as how = if how.is_waiting then Waiting else EachMove

-- `picture`: the same as a picture
abbrev pub ShowsPicture : Change → BoardValue → AnswerValue → Type 0
ShowsPicture c b a = (text : List ℕ) × IsPictureOf c (says b) text × (a ≡ answer_with text false)

-- `route`: the partition to ask for each of the keys that the words write
abbrev pub ShowsRoutes : List (List ℕ) → Change → BoardValue → AnswerValue → Type 0
ShowsRoutes words c b a = a ≡ routes_answer (route c (says b)) words

-- `route --name`: the partition to ask for each of the rows that have the words as names
abbrev pub ShowsNamedRoutes : List (List ℕ) → Change → BoardValue → AnswerValue → Type 0
ShowsNamedRoutes words c b a = a ≡ named_routes_answer (route c (says b)) words

-- `legs`: the legs of the span that the words write, or of all keys
abbrev pub ShowsLegs : Form → List (List ℕ) → Change → BoardValue → AnswerValue → Type 0
ShowsLegs form words c b a = a ≡ legs_answer form (route c (says b)) (span_asked words)

-- the answer of the newest course, or what refuses a file
abbrev pub AnswersKnown : (Change → BoardValue → AnswerValue → Type 0) → Result KnownValue AnswerValue → AnswerValue → Type 0
AnswersKnown Shows (Ok k) a = Shows k.course k.board a
AnswersKnown Shows (Err refusal) a = a ≡ refusal

-- the same of files: the first two are plans, and the others board files
abbrev pub AnswersNewest : Form → (Change → BoardValue → AnswerValue → Type 0) → List FileValue → AnswerValue → Type 0
AnswersNewest form Shows files a = AnswersKnown Shows (newest_of form files) a
