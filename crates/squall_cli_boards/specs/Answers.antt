-- What the commands over board files answer (this project's command line).
use Rattle.std.specs.Prelude.{◌≡◌, ◌↔◌, ℕ, List, [], ◌∷◌, ◌++◌, length, map, slice_get, nat_lt, Bool, true, false}
use Rattle.std.specs.Prelude.{Result, Ok, Err, codes, if◌then◌else◌}
use Rattle.std.specs.List.{AllByRecursion}
use Rattle.std.specs.Option.{option_map_or}
use Rattle.squall_plan.specs.declared.range.PlanRange.{PlanRange}
use Rattle.squall_plan.specs.declared.fault.PlanFault.{PlanFault}
use Rattle.squall_plan.specs.Faults.{text_of_fault as text_of_plan_fault}
use Rattle.squall_plan.specs.Form.{plan_of_text}
use Rattle.squall_report.specs.declared.report.ReportKind.TheVariants.{Issued}
use Rattle.squall_report.specs.Issues.{plan_pair}
use Rattle.squall_report.specs.Told.{TellsAll}
use Rattle.squall_board.specs.Boards.{BoardValue, told, report_board}
use Rattle.squall_board.specs.BoardBeyond.{TellsBeyond}
use Rattle.squall_wire.specs.declared.message.Message.TheVariants.{Delta, Digest}
use Rattle.squall_wire.specs.declared.fault.WireFault.{WireFault}
use Rattle.squall_wire.specs.declared.fault.WireFault.TheVariants.{Short}
use Rattle.squall_wire.specs.DigestValue.{DigestValue}
use Rattle.squall_wire.specs.Limits.{body_limit}
use Rattle.squall_wire.specs.Messages.{body_of, spell_body, spell, spell_all, IsMessage}
use Rattle.squall_delta.specs.Pieces.{ArePieces}
use Rattle.squall_delta.specs.Hashes.{digest_of}
use Rattle.squall_delta.specs.Repairs.{IsRepair}
use Rattle.squall_cli_words.specs.BoardText.{board_text}
use Rattle.squall_wire.specs.FaultText.{text_of_fault}
use Rattle.squall_cli_command.specs.declared.form.Form.{Form}
use Rattle.squall_cli_command.specs.declared.form.Form.TheVariants.{Lines, Json}
use Rattle.squall_cli_json.specs.Values.{json_line, json_of_refusal, json_of_board}
use Rattle.squall_cli_boards.specs.Files.{FileValue, RefusalValue, refused_file, board_of_files, digest_of_file}

-- the bytes to write, whether they refuse what was given, and whether they show a course that is not complete
pub record AnswerValue : Type 0 where
  pub text : List ℕ
  pub refused : Bool
  pub incomplete : Bool

abbrev pub answer_of : List ℕ → Bool → Bool → AnswerValue
answer_of text refused incomplete = record { text = text; refused = refused; incomplete = incomplete }

-- an answer that shows no course that is not complete
abbrev pub answer_with : List ℕ → Bool → AnswerValue
answer_with text refused = answer_of text refused false

-- what was given is refused by this line
abbrev pub refusing : List ℕ → AnswerValue
refusing line = answer_with line true

-- the answer for a board if there is one, and else the line that refuses
abbrev pub AnswersFor : (BoardValue → AnswerValue → Type 0) → Result BoardValue (List ℕ) → AnswerValue → Type 0
AnswersFor Shows (Ok b) a = Shows b a
AnswersFor Shows (Err line) a = a ≡ refusing line

-- a file is refused, by a line or as JSON
abbrev pub refusing_file : Form → RefusalValue → AnswerValue
refusing_file Lines r = refusing (refused_file r.name r.fault)
refusing_file Json r = refusing (json_line (json_of_refusal r.name (text_of_fault r.fault)))

-- the answer for a board if there is one, and else what refuses a file
abbrev pub AnswersIn : Form → (BoardValue → AnswerValue → Type 0) → Result BoardValue RefusalValue → AnswerValue → Type 0
AnswersIn form Shows (Ok b) a = Shows b a
AnswersIn form Shows (Err r) a = a ≡ refusing_file form r

-- ---- frames

-- the board has a frame
abbrev pub HasFrame : BoardValue → Type 0
HasFrame b = IsMessage (Delta b)

-- the frames of boards, one after the other
abbrev pub spell_boards : List BoardValue → List ℕ
spell_boards bs = spell_all (map Delta bs)

-- the bytes are the frames of the pieces of the board, one after the other; none if the board tells nothing
pub record AreFramesOf (b : BoardValue) (bytes : List ℕ) : Type 0 where
  pub pieces : List BoardValue
  pub cut : ArePieces b pieces
  pub each : AllByRecursion HasFrame pieces
  pub spelled : bytes ≡ spell_boards pieces

-- the frames of the board
abbrev pub ShowsFrames : BoardValue → AnswerValue → Type 0
ShowsFrames b a = AreFramesOf b a.text × (a.refused ≡ false)

-- ---- boards

-- the board, as lines or as JSON
abbrev pub board_in : Form → BoardValue → List ℕ
board_in Lines b = board_text b
board_in Json b = json_line (json_of_board b)

-- `board`: the board in that form
abbrev pub ShowsBoard : Form → BoardValue → AnswerValue → Type 0
ShowsBoard form b a = a ≡ answer_with (board_in form b) false

-- `digest`: the frame of the board's digest, or that it would be too long
abbrev pub answer_of_digest : DigestValue → AnswerValue
answer_of_digest d = if nat_lt body_limit (length (spell_body (body_of (Digest d)))) then refusing (codes "no TooLong\n")
    else answer_with (spell (Digest d)) false

abbrev pub ShowsDigest : BoardValue → AnswerValue → Type 0
ShowsDigest b a = a ≡ answer_of_digest (digest_of b)

-- `beyond`: the frames of what the first board tells that the second does not
abbrev pub ShowsBeyond : BoardValue → BoardValue → AnswerValue → Type 0
ShowsBeyond b other a = (c : BoardValue) × TellsBeyond b other c × ShowsFrames c a

-- `beyond --quiet`: nothing is written, and the status says whether the second board tells all that the first does
abbrev pub ShowsCover : BoardValue → BoardValue → AnswerValue → Type 0
ShowsCover b other a = (a.text ≡ []) × ((a.refused ≡ false) ↔ TellsAll (told other) (told b))

-- what is asked of two boards, the second of which is that of the files
abbrev pub AnswersBoth : (BoardValue → BoardValue → AnswerValue → Type 0) → List FileValue → BoardValue → AnswerValue → Type 0
AnswersBoth Shows others b a = AnswersFor (Shows b) (board_of_files others) a

-- `repair`: the frames of what the board has that the digest does not show
abbrev pub ShowsRepair : List ℕ → Result DigestValue WireFault → BoardValue → AnswerValue → Type 0
ShowsRepair name (Ok d) b a = (r : BoardValue) × IsRepair b d r × ShowsFrames r a
ShowsRepair name (Err fault) b a = a ≡ refusing (refused_file name fault)

-- the digest is that of the first file; without one it is read as a file without a byte
abbrev pub AnswersRepair : List FileValue → BoardValue → AnswerValue → Type 0
AnswersRepair [] b a = a ≡ refusing (refused_file [] Short)
AnswersRepair (f ∷ fs) b a = ShowsRepair f.name (digest_of_file f.bytes) b a

-- ---- plans

-- the line that refuses a plan, of which `which` says whether it is the old or the new one
abbrev pub refused_plan : List ℕ → PlanFault → List ℕ
refused_plan which fault = codes "refused " ++ (which ++ (codes " " ++ (text_of_plan_fault fault ++ codes "\n")))

-- a plan is refused, by that line or as JSON
abbrev pub refusing_plan : Form → List ℕ → PlanFault → AnswerValue
refusing_plan Lines which fault = refusing (refused_plan which fault)
refusing_plan Json which fault = refusing (json_line (json_of_refusal which (text_of_plan_fault fault)))

-- the answer for two plans, or what refuses the old one, or else the new one
abbrev pub AnswersPlans : Form → (List PlanRange → List PlanRange → AnswerValue → Type 0) → Result (List PlanRange) PlanFault
    → Result (List PlanRange) PlanFault → AnswerValue → Type 0
AnswersPlans form Shows (Ok old) (Ok new) a = Shows old new a
AnswersPlans form Shows (Ok old) (Err fault) a = a ≡ refusing_plan form (codes "new") fault
AnswersPlans form Shows (Err fault) new a = a ≡ refusing_plan form (codes "old") fault

-- the bytes of the n-th file, counted from 0: none if there is no such file
abbrev pub bytes_at : List FileValue → ℕ → List ℕ
bytes_at files n = option_map_or (λ f. f.bytes) (slice_get files n) []

-- the answer for the plans of the first two files
abbrev pub AnswersFirstPlans : Form → (List PlanRange → List PlanRange → AnswerValue → Type 0) → List FileValue → AnswerValue → Type 0
AnswersFirstPlans form Shows files a = AnswersPlans form Shows (plan_of_text (bytes_at files 0)) (plan_of_text (bytes_at files 1)) a

-- `report issued`: the frames of the board of that report alone
abbrev pub ShowsIssue : ℕ → List PlanRange → List PlanRange → AnswerValue → Type 0
ShowsIssue number old new a = ShowsFrames (report_board (Issued number (plan_pair old new))) a
