-- What a scenario answers, line by line (this project's scenario language).
use Rattle.std.specs.Prelude.{◌≡◌, ℕ, ◌+◌, ◌-◌, ◌^◌, min, Bool, true, false, List, [], ◌∷◌, ◌++◌, length, nat_lt, nat_le}
use Rattle.std.specs.Prelude.{Option, None, Some, Result, Ok, Err, codes, ◌==◌}
use Rattle.std.specs.Fmt.{decimal}
use Rattle.squall_key.specs.Keys.{part_limit}
use Rattle.squall_span.specs.Spans.{Interval, span_at}
use Rattle.squall_plan.specs.declared.range.PlanRange.{PlanRange}
use Rattle.squall_plan.specs.declared.fault.PlanFault.{PlanFault}
use Rattle.squall_plan.specs.Form.{plan_of_text}
use Rattle.squall_report.specs.declared.report.ReportKind.{ReportKind}
use Rattle.squall_report.specs.Issues.{PlanPair, plan_pair}
use Rattle.squall_report.specs.Facts.{issued_of}
use Rattle.squall_board.specs.Boards.{BoardValue, empty_board, board_join, report_board}
use Rattle.squall_course.specs.Change.{Change}
use Rattle.squall_board.specs.CourseRoute.{route_by_newest}
use Rattle.hex.specs.Hex.{decode_of}
use Rattle.hex.specs.declared.error.FromHexError.{FromHexError}
use Rattle.squall_wire.specs.Hearing.{feed_after}
use Rattle.squall_wire.specs.Heard.{HeardValue, heard_of}
use Rattle.squall_cli_lines.specs.Script.{Script, silence, after, last_word}
use Rattle.squall_cli_lines.specs.Words.{without_cr}
use Rattle.squall_cli_words.specs.declared.reason.Reason.{Reason}
use Rattle.squall_cli_words.specs.declared.reason.Reason.TheVariants.{Word, Order, Limit, Plan}
use Rattle.squall_cli_words.specs.Reasons.{bad_line}
use Rattle.squall_cli_words.specs.ReportLines.{report_of}
use Rattle.squall_cli_words.specs.BoardText.{board_text}
use Rattle.squall_cli_words.specs.RouteText.{route_text, leg_lines}
use Rattle.squall_protocol.specs.declared.event.Event.{Event}
use Rattle.squall_protocol.specs.declared.event.Event.TheVariants.{Serve}
use Rattle.squall_protocol.specs.Worlds.{most_routers, first_parts, start}
use Rattle.squall_rows.specs.RowSteps.{Act, Plain, Ask, Outcome, Answered, Ran}
use Rattle.squall_store.specs.declared.command.Command.{Command}
use Rattle.squall_store.specs.declared.command.Command.TheVariants as command
use Rattle.squall_world_rows.specs.Seen.{BytesRow}
use Rattle.squall_world_rows.specs.Maps.{no_rows, MapWorld, MapStep}
use Rattle.squall_cli_events.specs.declared.events.Unfit.{Unfit}
use Rattle.squall_cli_events.specs.declared.events.Unfit.TheVariants.{OverLimit, NoPlan as no_plan}
use Rattle.squall_cli_events.specs.EventLines.{event_of}
use Rattle.squall_cli_events.specs.AnswerText.{answer_line}
use Rattle.squall_cli_events.specs.RowLines.{CommandLine, Put, Get, Del, row_answer}
use Rattle.squall_cli_scenario.specs.State.{StageState, NoPlan, OldPlan, BothPlans, InWorld, ScenarioState, has_world}
use Rattle.squall_cli_scenario.specs.Requests.{Request, Skip, Old, New, Report, Issued, Route, Legs, Board, Hear, Frame, World, Happen, Row, Bad, request_of}
use Rattle.squall_cli_scenario.specs.Frames.{text_of_heard, after_bodies, frame_text}
use Rattle.squall_cli_scenario.specs.LegText.{legs_of_span}

-- What comes of a line. It is its answer and the scenario after it, or an act in the world, which is an event or a command on a row, or
-- why the line is bad. The answer to an act is one that the world may give to it.
pub data Reply : Type 0 where
  Goes : List ℕ → ScenarioState → Reply
  Happens : MapWorld → Act Command → ScenarioState → Reply
  Ends : Reason → Reply

abbrev pub at_stage : ScenarioState → StageState → ScenarioState
at_stage s stage = record s { stage = stage }

abbrev pub with_board : ScenarioState → BoardValue → ScenarioState
with_board s board = record s { board = board }

-- old JSON, once, before all else: the number of the plan's ranges
abbrev pub old_plan : ScenarioState → Result (List PlanRange) PlanFault → Reply
old_plan s (Ok plan) = Goes (codes "old " ++ (decimal (length plan) ++ codes "\n")) (at_stage s (OldPlan plan))
old_plan s (Err fault) = Ends (Plan fault)

abbrev pub old_reply : ScenarioState → StageState → List ℕ → Reply
old_reply s NoPlan text = old_plan s (plan_of_text text)
old_reply s (OldPlan old) text = Ends Order
old_reply s (BothPlans old new) text = Ends Order
old_reply s (InWorld w) text = Ends Order

-- new JSON, once, right after it: the number of the plan's ranges
abbrev pub new_plan : ScenarioState → List PlanRange → Result (List PlanRange) PlanFault → Reply
new_plan s old (Ok plan) = Goes (codes "new " ++ (decimal (length plan) ++ codes "\n")) (at_stage s (BothPlans old plan))
new_plan s old (Err fault) = Ends (Plan fault)

abbrev pub new_reply : ScenarioState → StageState → List ℕ → Reply
new_reply s NoPlan text = Ends Order
new_reply s (OldPlan old) text = new_plan s old (plan_of_text text)
new_reply s (BothPlans old new) text = Ends Order
new_reply s (InWorld w) text = Ends Order

-- a report, which is taken if its numbers lie within their limits
abbrev pub take_reply : ScenarioState → Option (ReportKind PlanPair) → Reply
take_reply s (Some report) = Goes (codes "taken\n") (with_board s (board_join s.board (report_board report)))
take_reply s None = Ends Limit

abbrev pub report_reply : ScenarioState → StageState → Option (ReportKind PlanPair) → Reply
report_reply s NoPlan report = Ends Order
report_reply s (OldPlan old) report = Ends Order
report_reply s (BothPlans old new) report = take_reply s report
report_reply s (InWorld w) report = Ends Order

-- issued N JSON: a report that under N the plan changes from that of the line `new` to that of the text
abbrev pub issue_reply : ScenarioState → ℕ → List PlanRange → Result (List PlanRange) PlanFault → Reply
issue_reply s number new (Ok plan) = take_reply s (issued_of number (plan_pair new plan))
issue_reply s number new (Err fault) = Ends (Plan fault)

-- a value outside its limits is the reason, and not a fault of the text
abbrev pub limit_where : Bool → Reply → Reply
limit_where true reply = Ends Limit
limit_where false reply = reply

abbrev pub issued_reply : ScenarioState → StageState → ℕ → List ℕ → Reply
issued_reply s NoPlan number text = Ends Order
issued_reply s (OldPlan old) number text = Ends Order
issued_reply s (BothPlans old new) number text = limit_where (number == 0) (issue_reply s number new (plan_of_text text))
issued_reply s (InWorld w) number text = Ends Order

-- course 1 goes from the old plan to the new one
abbrev pub first_course : List PlanRange → List PlanRange → Change
first_course old new = record { number = 1; old = old; new = new }

-- route K: the partition to ask for the key, by the newest course that is known
abbrev pub route_reply : ScenarioState → StageState → ℕ → Reply
route_reply s NoPlan key = Ends Order
route_reply s (OldPlan old) key = Ends Order
route_reply s (BothPlans old new) key = Goes (route_text key (route_by_newest (first_course old new) s.board key)) s
route_reply s (InWorld w) key = Ends Order

-- legs LO HI: the legs of the span, which must have a key
abbrev pub span_reply : ScenarioState → Change → Option Interval → Reply
span_reply s first None = Ends Limit
span_reply s first (Some span) = Goes (leg_lines (legs_of_span first s.board span)) s

abbrev pub legs_reply : ScenarioState → StageState → Option Interval → Reply
legs_reply s NoPlan span = Ends Order
legs_reply s (OldPlan old) span = Ends Order
legs_reply s (BothPlans old new) span = span_reply s (first_course old new) span
legs_reply s (InWorld w) span = Ends Order

-- board: what was reported
abbrev pub board_reply : ScenarioState → StageState → Reply
board_reply s NoPlan = Ends Order
board_reply s (OldPlan old) = Ends Order
board_reply s (BothPlans old new) = Goes (board_text s.board) s
board_reply s (InWorld w) = Ends Order

-- what was heard: its messages are merged into the board, and the rest waits or ends the feed
abbrev pub after_heard : ScenarioState → HeardValue → ScenarioState
after_heard s heard = record s { board = after_bodies s.board heard.bodies; feed = feed_after heard.fault heard.rest }

abbrev pub heard_reply : ScenarioState → HeardValue → Reply
heard_reply s heard = Goes (text_of_heard heard.bodies heard.fault) (after_heard s heard)

-- a feed that a fault has ended takes nothing
abbrev pub feed_reply : ScenarioState → Bool → List ℕ → Reply
feed_reply s true bytes = Goes (codes "no Failed\n") s
feed_reply s false bytes = heard_reply s (heard_of (s.feed.waiting ++ bytes))

abbrev pub bytes_reply : ScenarioState → StageState → List ℕ → Reply
bytes_reply s NoPlan bytes = Ends Order
bytes_reply s (OldPlan old) bytes = Ends Order
bytes_reply s (BothPlans old new) bytes = feed_reply s s.feed.failed bytes
bytes_reply s (InWorld w) bytes = Ends Order

-- hear HEX: what the feed hears in the bytes that the digits write
abbrev pub hear_reply : ScenarioState → Result (List ℕ) FromHexError → Reply
hear_reply s (Ok bytes) = bytes_reply s s.stage bytes
hear_reply s (Err fault) = Ends Word

-- frame: the frame of the board
abbrev pub frame_reply : ScenarioState → StageState → Reply
frame_reply s NoPlan = Ends Order
frame_reply s (OldPlan old) = Ends Order
frame_reply s (BothPlans old new) = Goes (frame_text s.board) s
frame_reply s (InWorld w) = Ends Order

-- how many partitions and routers there are
abbrev pub world_text : List ℕ → ℕ → List ℕ
world_text parts routers = codes "world " ++ (decimal (length parts) ++ (codes " " ++ (decimal routers ++ codes "\n")))

-- the world as it begins. No key has a row
abbrev pub first_world : List PlanRange → List PlanRange → ℕ → MapWorld
first_world old new routers = record { world = start old new routers; map = no_rows }

-- world R: a world of the course with R routers, if it may have as many
abbrev pub world_of : ScenarioState → List PlanRange → List PlanRange → ℕ → Reply
world_of s old new routers = Goes (world_text (first_parts old new) routers) (record s { stage = InWorld (first_world old new routers); board = empty_board })

abbrev pub world_reply : ScenarioState → StageState → ℕ → Reply
world_reply s NoPlan routers = Ends Order
world_reply s (OldPlan old) routers = Ends Order
world_reply s (BothPlans old new) routers = limit_where (nat_lt most_routers routers) (world_of s old new routers)
world_reply s (InWorld w) routers = Ends Order

-- an event of the world, if the line is one; else why it is none
abbrev pub event_reply : ScenarioState → MapWorld → Result Event Unfit → Reply
event_reply s w (Ok event) = Happens w (Plain event) s
event_reply s w (Err OverLimit) = Ends Limit
event_reply s w (Err (no_plan fault)) = Ends (Plan fault)

abbrev pub happen_reply : ScenarioState → StageState → Result Event Unfit → Reply
happen_reply s NoPlan event = Ends Order
happen_reply s (OldPlan old) event = Ends Order
happen_reply s (BothPlans old new) event = Ends Order
happen_reply s (InWorld w) event = event_reply s w event

-- the command on a row that a line writes, whose row is then that of the text
abbrev pub command_of : CommandLine → Command
command_of (Put text) = command.Put text
command_of Get = command.Get
command_of Del = command.Delete

-- put P K TEXT, get P K, del P K: the partition is asked for the command, with no move followed, if its number lies within its limit
abbrev pub ask_reply : ScenarioState → StageState → ℕ → ℕ → Command → Reply
ask_reply s NoPlan part key command = Ends Order
ask_reply s (OldPlan old) part key command = Ends Order
ask_reply s (BothPlans old new) part key command = Ends Order
ask_reply s (InWorld w) part key command = limit_where (nat_le part_limit part) (Happens w (Ask part key 0 command) s)

-- what a request brings about
abbrev pub reply_to : ScenarioState → Request → Reply
reply_to s Skip = Goes [] s
reply_to s (Old text) = old_reply s s.stage text
reply_to s (New text) = new_reply s s.stage text
reply_to s (Report words) = report_reply s s.stage (report_of words)
reply_to s (Issued number text) = issued_reply s s.stage number text
reply_to s (Route key) = route_reply s s.stage key
reply_to s (Legs lo hi) = legs_reply s s.stage (span_at lo hi)
reply_to s Board = board_reply s s.stage
reply_to s (Hear digits) = hear_reply s (decode_of digits)
reply_to s Frame = frame_reply s s.stage
reply_to s (World routers) = world_reply s s.stage routers
reply_to s (Happen line) = happen_reply s s.stage (event_of line)
reply_to s (Row row) = ask_reply s s.stage row.part row.key (command_of row.command)
reply_to s (Bad reason) = Ends reason

-- ---- lines

-- lines count from 1, and the count stops at the greatest number of 64 bits
abbrev pub at_next_line : ScenarioState → ScenarioState
at_next_line s = record s { line = min (s.line + 1) (2 ^ 64 - 1) }

-- what a line asks for depends on whether there is a world
abbrev pub reply_to_line : ScenarioState → List ℕ → Reply
reply_to_line s line = reply_to s (request_of (has_world s.stage) line)

-- The line that answers an act. If a command ran, it shows the row that was there before. If it did not run, it is what answers `serve`
abbrev pub outcome_line : Act Command → Outcome BytesRow → List ℕ
outcome_line (Plain event) (Answered answer) = answer_line event answer
outcome_line (Ask part key after command) (Answered answer) = answer_line (Serve part key after) answer
outcome_line act (Ran row) = row_answer row
outcome_line act outcome = []

-- the act happens in the world with its one map: this is the line that answers it, and this the scenario after it
abbrev pub Happened : MapWorld → Act Command → ScenarioState → List ℕ → ScenarioState → Type 0
Happened w act s text t = (outcome : Outcome BytesRow) × (v : MapWorld) × MapStep w act outcome v × (text ≡ outcome_line act outcome) × (t ≡ at_stage s (InWorld v))

-- The script is the answer to the line of that number, and then what a scenario in the state that it left may answer. Nothing follows the
-- answer to a bad line.
abbrev pub Follows : ℕ → Reply → (ScenarioState → Script → Type 0) → Script → Type 0
Follows line (Goes text t) then script = (rest : Script) × then t rest × (script ≡ after (text ∷ []) rest)
Follows line (Happens w act s) then script =
    (text : List ℕ) × (t : ScenarioState) × (rest : Script) × Happened w act s text t × then t rest × (script ≡ after (text ∷ []) rest)
Follows line (Ends reason) then script = script ≡ last_word (bad_line line reason ++ codes "\n")

-- it may answer these lines, each without its LF, by the script
abbrev pub MayAnswer : ScenarioState → List (List ℕ) → Script → Type 0
MayAnswer s [] script = script ≡ silence
MayAnswer s (line ∷ lines) script = Follows (at_next_line s).line (reply_to_line (at_next_line s) (without_cr line)) (λ t rest. MayAnswer t lines rest) script
