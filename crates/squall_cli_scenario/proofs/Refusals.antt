-- Which runs are refused, by the last line of what they answer.
use Rattle.std.proofs.Common.{◌≡◌, ◌≢◌, ℕ, List, [], ◌∷◌, ◌++◌, length, Bool, true, false, Option, None, Some, Result, Ok, Err, suc, refl, sym, ap, subst, arith, append_assoc, ◌∙◌, nat_lt, nat_le}
use Rattle.std.proofs.lemmas.Bool.{false≢true}
use Rattle.std.proofs.lemmas.List.{append-nil}
use Rattle.std.specs.Prelude.{codes, ◌==◌}
use Rattle.std.specs.Fmt.{decimal}
use Rattle.squall_key.specs.Keys.{part_limit, text_of_key}
use Rattle.squall_span.specs.Spans.{Interval, span_at}
use Rattle.squall_plan.specs.declared.range.PlanRange.{PlanRange}
use Rattle.squall_plan.specs.declared.fault.PlanFault.{PlanFault}
use Rattle.squall_plan.specs.Form.{plan_of_text}
use Rattle.squall_report.specs.declared.report.ReportKind.{ReportKind}
use Rattle.squall_report.specs.Issues.{PlanPair, plan_pair}
use Rattle.squall_report.specs.Facts.{issued_of}
use Rattle.squall_board.specs.CourseRoute.{route_by_newest}
use Rattle.squall_cli_lines.specs.Script.{Script, text_of, after}
use Rattle.squall_cli_lines.specs.Words.{without_cr}
use Rattle.squall_cli_words.specs.declared.reason.Reason.{Reason}
use Rattle.squall_cli_scenario.specs.State.{StageState, NoPlan, OldPlan, BothPlans, InWorld, ScenarioState, at_start, has_world}
use Rattle.squall_cli_scenario.specs.Requests.{Request, Skip, Old, New, Report, Issued, Route, Legs, Board, Hear, Frame, World, Happen, Row, Bad, request_of}
use Rattle.squall_cli_scenario.specs.Replies.{Reply, Goes, Happens, Ends, old_plan, old_reply, new_plan, new_reply, take_reply, report_reply, issue_reply, limit_where, issued_reply, first_course, route_reply, span_reply, legs_reply, board_reply, feed_reply, bytes_reply, hear_reply, frame_reply, world_of, world_reply, event_reply, happen_reply, command_of, ask_reply, reply_to, reply_to_line, at_next_line, Happened, Follows, MayAnswer}
use Rattle.squall_cli_words.specs.Reasons.{text_of_reason, bad_line}
use Rattle.squall_cli_words.specs.ReportLines.{report_of}
use Rattle.squall_cli_words.specs.Endings.{EndsInBadLine, EndsInNoBadLine, HasNoBadLine}
use Rattle.squall_protocol.specs.declared.event.Event.{Event}
use Rattle.squall_protocol.specs.Worlds.{most_routers, first_parts}
use Rattle.squall_rows.specs.RowSteps.{Act, Ask}
use Rattle.squall_store.specs.declared.command.Command.{Command}
use Rattle.squall_world_rows.specs.Maps.{MapWorld}
use Rattle.squall_cli_events.specs.declared.events.Unfit.{Unfit}
use Rattle.squall_cli_events.specs.declared.events.Unfit.TheVariants.{OverLimit, NoPlan as no_plan}
use Rattle.squall_cli_events.specs.EventLines.{event_of}
use Rattle.squall_cli_words.proofs.LineTexts.{no_lf, decimal_no_lf, key_no_lf, Spells, spells_lf, spells_glued, spells_append, NotBegun, differs_at, Lacks, lacks_nothing, lacks_line, lacks_append, last_is, last_lacks, all_lines}
use Rattle.squall_cli_words.proofs.BadLines.{bad_line_no_lf}
use Rattle.squall_cli_words.proofs.Boards.{board_lacks}
use Rattle.squall_cli_scenario.proofs.ShownLegs.{legs_lack}
use Rattle.squall_cli_scenario.specs.LegText.{legs_of_span}
use Rattle.squall_course.specs.Change.{Change}
use Rattle.squall_cli_scenario.proofs.RowTexts.{outcome_lacks}
use Rattle.squall_cli_scenario.proofs.Heard.{text_lacks, failed_lacks, frame_lacks}
use Rattle.squall_wire.specs.Heard.{heard_of}
use Rattle.hex.specs.Hex.{decode_of}
use Rattle.hex.specs.declared.error.FromHexError.{FromHexError}

abbrev bad : List ℕ
bad = codes "bad line "

-- ---- replies

-- a reply that goes on has no bad line; nor has the answer to an act
abbrev NotBad : Reply → Type 0
NotBad (Goes text s) = Lacks bad text
NotBad (Happens w act s) = Unit {0}
NotBad (Ends reason) = Unit {0}

-- a word that does not begin as a bad line does, a number, and an LF
numbered_lacks : (word : List ℕ) (n : ℕ) → no_lf word ≡ true → ((more : List ℕ) → NotBegun bad (word ++ more)) → Lacks bad (word ++ (decimal n ++ codes "\n"))
numbered_lacks word n h i =
    lacks_line bad (word ++ (decimal n ++ codes "\n")) (word ++ (decimal n ++ []))
    (spells_glued word (decimal n ++ codes "\n") (decimal n ++ []) [] h (spells_glued (decimal n) (codes "\n") [] [] (decimal_no_lf n) spells_lf)) (i (decimal n ++ []))

old_plan_good : (s : ScenarioState) (r : Result (List PlanRange) PlanFault) → NotBad (old_plan s r)
old_plan_good s (Ok plan) = numbered_lacks (codes "old ") (length plan) refl (λ more rest. differs_at 0 (codes "old " ++ more) (bad ++ rest) (λ e. omega (arith, e)))
old_plan_good s (Err fault) = tt

old_good : (s : ScenarioState) (stage : StageState) (text : List ℕ) → NotBad (old_reply s stage text)
old_good s NoPlan text = old_plan_good s (plan_of_text text)
old_good s (OldPlan old) text = tt
old_good s (BothPlans old new) text = tt
old_good s (InWorld w) text = tt

new_plan_good : (s : ScenarioState) (old : List PlanRange) (r : Result (List PlanRange) PlanFault) → NotBad (new_plan s old r)
new_plan_good s old (Ok plan) = numbered_lacks (codes "new ") (length plan) refl (λ more rest. differs_at 0 (codes "new " ++ more) (bad ++ rest) (λ e. omega (arith, e)))
new_plan_good s old (Err fault) = tt

new_good : (s : ScenarioState) (stage : StageState) (text : List ℕ) → NotBad (new_reply s stage text)
new_good s NoPlan text = tt
new_good s (OldPlan old) text = new_plan_good s old (plan_of_text text)
new_good s (BothPlans old new) text = tt
new_good s (InWorld w) text = tt

take_good : (s : ScenarioState) (report : Option (ReportKind PlanPair)) → NotBad (take_reply s report)
take_good s None = tt
take_good s (Some report) =
    lacks_line bad (codes "taken\n") (codes "taken" ++ []) (spells_glued (codes "taken") (codes "\n") [] [] refl spells_lf) (λ rest. differs_at 0 (codes "taken" ++ []) (bad ++ rest) (λ e. omega (arith, e)))

report_good : (s : ScenarioState) (stage : StageState) (report : Option (ReportKind PlanPair)) → NotBad (report_reply s stage report)
report_good s NoPlan report = tt
report_good s (OldPlan old) report = tt
report_good s (BothPlans old new) report = take_good s report
report_good s (InWorld w) report = tt

route_lacks : (key part : ℕ) → Lacks bad (codes "route " ++ (text_of_key key ++ (codes " " ++ (decimal part ++ codes "\n"))))
route_lacks key part =
    lacks_line bad (codes "route " ++ (text_of_key key ++ (codes " " ++ (decimal part ++ codes "\n")))) (codes "route " ++ (text_of_key key ++ (codes " " ++ (decimal part ++ []))))
    (spells_glued (codes "route ") (text_of_key key ++ (codes " " ++ (decimal part ++ codes "\n"))) (text_of_key key ++ (codes " " ++ (decimal part ++ []))) [] refl
    (spells_glued (text_of_key key) (codes " " ++ (decimal part ++ codes "\n")) (codes " " ++ (decimal part ++ [])) [] (key_no_lf key)
    (spells_glued (codes " ") (decimal part ++ codes "\n") (decimal part ++ []) [] refl
    (spells_glued (decimal part) (codes "\n") [] [] (decimal_no_lf part) spells_lf))))
    (λ rest. differs_at 0 (codes "route " ++ (text_of_key key ++ (codes " " ++ (decimal part ++ [])))) (bad ++ rest) (λ e. omega (arith, e)))

world_lacks : (parts routers : ℕ) → Lacks bad (codes "world " ++ (decimal parts ++ (codes " " ++ (decimal routers ++ codes "\n"))))
world_lacks parts routers =
    lacks_line bad (codes "world " ++ (decimal parts ++ (codes " " ++ (decimal routers ++ codes "\n")))) (codes "world " ++ (decimal parts ++ (codes " " ++ (decimal routers ++ []))))
    (spells_glued (codes "world ") (decimal parts ++ (codes " " ++ (decimal routers ++ codes "\n"))) (decimal parts ++ (codes " " ++ (decimal routers ++ []))) [] refl
    (spells_glued (decimal parts) (codes " " ++ (decimal routers ++ codes "\n")) (codes " " ++ (decimal routers ++ [])) [] (decimal_no_lf parts)
    (spells_glued (codes " ") (decimal routers ++ codes "\n") (decimal routers ++ []) [] refl
    (spells_glued (decimal routers) (codes "\n") [] [] (decimal_no_lf routers) spells_lf))))
    (λ rest. differs_at 0 (codes "world " ++ (decimal parts ++ (codes " " ++ (decimal routers ++ [])))) (bad ++ rest) (λ e. omega (arith, e)))

route_good : (s : ScenarioState) (stage : StageState) (key : ℕ) → NotBad (route_reply s stage key)
route_good s NoPlan key = tt
route_good s (OldPlan old) key = tt
route_good s (BothPlans old new) key = route_lacks key (route_by_newest (first_course old new) s.board key)
route_good s (InWorld w) key = tt

issue_good : (s : ScenarioState) (number : ℕ) (new : List PlanRange) (r : Result (List PlanRange) PlanFault) → NotBad (issue_reply s number new r)
issue_good s number new (Ok plan) = take_good s (issued_of number (plan_pair new plan))
issue_good s number new (Err fault) = tt

limit_good : (limit : Bool) (reply : Reply) → NotBad reply → NotBad (limit_where limit reply)
limit_good true reply h = tt
limit_good false reply h = h

issued_good : (s : ScenarioState) (stage : StageState) (number : ℕ) (text : List ℕ) → NotBad (issued_reply s stage number text)
issued_good s NoPlan number text = tt
issued_good s (OldPlan old) number text = tt
issued_good s (BothPlans old new) number text = limit_good (number == 0) (issue_reply s number new (plan_of_text text)) (issue_good s number new (plan_of_text text))
issued_good s (InWorld w) number text = tt

span_good : (s : ScenarioState) (first : Change) (span : Option Interval) → NotBad (span_reply s first span)
span_good s first None = tt
span_good s first (Some span) = legs_lack (legs_of_span first s.board span)

legs_good : (s : ScenarioState) (stage : StageState) (span : Option Interval) → NotBad (legs_reply s stage span)
legs_good s NoPlan span = tt
legs_good s (OldPlan old) span = tt
legs_good s (BothPlans old new) span = span_good s (first_course old new) span
legs_good s (InWorld w) span = tt

board_good : (s : ScenarioState) (stage : StageState) → NotBad (board_reply s stage)
board_good s NoPlan = tt
board_good s (OldPlan old) = tt
board_good s (BothPlans old new) = board_lacks s.board
board_good s (InWorld w) = tt

feed_good : (s : ScenarioState) (failed : Bool) (bytes : List ℕ) → NotBad (feed_reply s failed bytes)
feed_good s true bytes = failed_lacks
feed_good s false bytes = text_lacks (heard_of (s.feed.waiting ++ bytes)).bodies (heard_of (s.feed.waiting ++ bytes)).fault

bytes_good : (s : ScenarioState) (stage : StageState) (bytes : List ℕ) → NotBad (bytes_reply s stage bytes)
bytes_good s NoPlan bytes = tt
bytes_good s (OldPlan old) bytes = tt
bytes_good s (BothPlans old new) bytes = feed_good s s.feed.failed bytes
bytes_good s (InWorld w) bytes = tt

hear_good : (s : ScenarioState) (bytes : Result (List ℕ) FromHexError) → NotBad (hear_reply s bytes)
hear_good s (Ok bytes) = bytes_good s s.stage bytes
hear_good s (Err fault) = tt

frame_good : (s : ScenarioState) (stage : StageState) → NotBad (frame_reply s stage)
frame_good s NoPlan = tt
frame_good s (OldPlan old) = tt
frame_good s (BothPlans old new) = frame_lacks s.board
frame_good s (InWorld w) = tt

world_good : (s : ScenarioState) (stage : StageState) (routers : ℕ) → NotBad (world_reply s stage routers)
world_good s NoPlan routers = tt
world_good s (OldPlan old) routers = tt
world_good s (BothPlans old new) routers = limit_good (nat_lt most_routers routers) (world_of s old new routers) (world_lacks (length (first_parts old new)) routers)
world_good s (InWorld w) routers = tt

event_good : (s : ScenarioState) (w : MapWorld) (event : Result Event Unfit) → NotBad (event_reply s w event)
event_good s w (Ok event) = tt
event_good s w (Err OverLimit) = tt
event_good s w (Err (no_plan fault)) = tt

happen_good : (s : ScenarioState) (stage : StageState) (event : Result Event Unfit) → NotBad (happen_reply s stage event)
happen_good s NoPlan event = tt
happen_good s (OldPlan old) event = tt
happen_good s (BothPlans old new) event = tt
happen_good s (InWorld w) event = event_good s w event

ask_good : (s : ScenarioState) (stage : StageState) (part key : ℕ) (command : Command) → NotBad (ask_reply s stage part key command)
ask_good s NoPlan part key command = tt
ask_good s (OldPlan old) part key command = tt
ask_good s (BothPlans old new) part key command = tt
ask_good s (InWorld w) part key command = limit_good (nat_le part_limit part) (Happens w (Ask part key 0 command) s) tt

reply_good : (s : ScenarioState) (request : Request) → NotBad (reply_to s request)
reply_good s Skip = lacks_nothing bad
reply_good s (Old text) = old_good s s.stage text
reply_good s (New text) = new_good s s.stage text
reply_good s (Report words) = report_good s s.stage (report_of words)
reply_good s (Issued number text) = issued_good s s.stage number text
reply_good s (Route key) = route_good s s.stage key
reply_good s (Legs lo hi) = legs_good s s.stage (span_at lo hi)
reply_good s Board = board_good s s.stage
reply_good s (Hear digits) = hear_good s (decode_of digits)
reply_good s Frame = frame_good s s.stage
reply_good s (World routers) = world_good s s.stage routers
reply_good s (Happen line) = happen_good s s.stage (event_of line)
reply_good s (Row row) = ask_good s s.stage row.part row.key (command_of row.command)
reply_good s (Bad reason) = tt

line_good : (s : ScenarioState) (line : List ℕ) → NotBad (reply_to_line s line)
line_good s line = reply_good s (request_of (has_world s.stage) line)

-- ---- refused

-- the text is whole lines, and a bad one last
abbrev Refuses : List ℕ → Type 0
Refuses text = (lines : List (List ℕ)) × (n : ℕ) × (reason : Reason) × Spells text (lines ++ bad_line n reason ∷ [])

bad_refuses : (n : ℕ) (reason : Reason) → Refuses ((bad_line n reason ++ codes "\n") ++ [])
bad_refuses n reason = (
  [],
  n,
  reason,
  subst (λ text. Spells text (bad_line n reason ∷ [])) (sym (append-nil (bad_line n reason ++ codes "\n")))
      (subst (λ line. Spells (bad_line n reason ++ codes "\n") (line ∷ [])) (append-nil (bad_line n reason)) (spells_glued (bad_line n reason) (codes "\n") [] [] (bad_line_no_lf n reason) spells_lf)),
)

more_refuses : (a b : List ℕ) → Lacks bad a → Refuses b → Refuses (a ++ b)
more_refuses a b h i = (
  h.0 ++ i.0,
  i.1,
  i.2,
  subst (λ lines. Spells (a ++ b) lines) (sym (append_assoc h.0 i.0 (bad_line i.1 i.2 ∷ []))) (spells_append a b h.0 (i.0 ++ bad_line i.1 i.2 ∷ []) h.1 i.3),
)

-- what comes after the answer to a line: a script of a scenario that answers the later lines
abbrev EachRest : (ScenarioState → Script → Type 0) → (Script → Type 0) → Type 0
EachRest then P = (t : ScenarioState) (rest : Script) → then t rest → P rest

happened_lacks : (w : MapWorld) (act : Act Command) (s : ScenarioState) (text : List ℕ) (t : ScenarioState) → Happened w act s text t → Lacks bad text
happened_lacks w act s text t h = subst (Lacks bad) (sym h.3) (outcome_lacks act h.0)

-- where it is refused, it is whole lines, and a bad one last
abbrev RefusesWhole : Script → Type 0
RefusesWhole script = script.refused ≡ true → Refuses (text_of script)

on_refuses : (text : List ℕ) (rest : Script) → Lacks bad text → RefusesWhole rest → RefusesWhole (after (text ∷ []) rest)
on_refuses text rest good later e = more_refuses text (text_of rest) good (later e)

follow_refuses : (line : ℕ) (reply : Reply) (then : ScenarioState → Script → Type 0) (script : Script) → NotBad reply → EachRest then RefusesWhole → Follows line reply then script → RefusesWhole script
follow_refuses line (Goes text t) then script good later f = subst RefusesWhole (sym f.2) (on_refuses text f.0 good (later t f.0 f.1))
follow_refuses line (Happens w act s) then script good later f =
    subst RefusesWhole (sym f.5) (on_refuses f.0 f.2 (happened_lacks w act s f.0 f.1 f.3) (later f.1 f.2 f.4))
follow_refuses line (Ends reason) then script good later f = subst RefusesWhole (sym f) (λ e. bad_refuses line reason)

from_refuses : (s : ScenarioState) (lines : List (List ℕ)) (script : Script) → MayAnswer s lines script → RefusesWhole script
from_refuses s [] script f = λ e. absurd (false≢true (sym (ap (λ (x : Script). x.refused) f) ∙ e))
from_refuses s (line ∷ lines) script f =
    let next = at_next_line s in
    follow_refuses next.line (reply_to_line next (without_cr line)) (λ t rest. MayAnswer t lines rest) script (line_good next (without_cr line)) (λ t rest. from_refuses t lines rest) f

ends_bad : (text : List ℕ) → Refuses text → EndsInBadLine text
ends_bad text h = (h.1, h.2, last_is text h.0 (bad_line h.1 h.2) h.3)

pub refused_ends : (lines : List (List ℕ)) (script : Script) → MayAnswer at_start lines script → script.refused ≡ true → EndsInBadLine (text_of script)
refused_ends lines script f e = ends_bad (text_of script) (from_refuses at_start lines script f e)

-- ---- fine

-- where it is not refused, no line is bad
abbrev LacksAll : Script → Type 0
LacksAll script = script.refused ≡ false → Lacks bad (text_of script)

on_lacks : (text : List ℕ) (rest : Script) → Lacks bad text → LacksAll rest → LacksAll (after (text ∷ []) rest)
on_lacks text rest good later e = lacks_append bad text (text_of rest) good (later e)

follow_lacks : (line : ℕ) (reply : Reply) (then : ScenarioState → Script → Type 0) (script : Script) → NotBad reply → EachRest then LacksAll → Follows line reply then script → LacksAll script
follow_lacks line (Goes text t) then script good later f = subst LacksAll (sym f.2) (on_lacks text f.0 good (later t f.0 f.1))
follow_lacks line (Happens w act s) then script good later f =
    subst LacksAll (sym f.5) (on_lacks f.0 f.2 (happened_lacks w act s f.0 f.1 f.3) (later f.1 f.2 f.4))
follow_lacks line (Ends reason) then script good later f = subst LacksAll (sym f) (λ e. absurd (false≢true (sym e)))

from_lacks : (s : ScenarioState) (lines : List (List ℕ)) (script : Script) → MayAnswer s lines script → LacksAll script
from_lacks s [] script f = subst LacksAll (sym f) (λ e. lacks_nothing bad)
from_lacks s (line ∷ lines) script f =
    let next = at_next_line s in
    follow_lacks next.line (reply_to_line next (without_cr line)) (λ t rest. MayAnswer t lines rest) script (line_good next (without_cr line)) (λ t rest. from_lacks t lines rest) f

pub fine_lacks : (lines : List (List ℕ)) (script : Script) → MayAnswer at_start lines script → script.refused ≡ false → HasNoBadLine (text_of script)
fine_lacks lines script f e n reason =
    all_lines (λ line. line ≢ bad_line n reason) bad (text_of script) (λ line h. h (decimal n ++ (codes ": " ++ text_of_reason reason))) (from_lacks at_start lines script f e)

pub fine_ends : (lines : List (List ℕ)) (script : Script) → MayAnswer at_start lines script → script.refused ≡ false → EndsInNoBadLine (text_of script)
fine_ends lines script f e n reason = last_lacks bad (text_of script) (from_lacks at_start lines script f e) (decimal n ++ (codes ": " ++ text_of_reason reason))

-- where it is not refused, there are so many answers
abbrev Counts : ℕ → Script → Type 0
Counts n script = script.refused ≡ false → length script.answers ≡ n

on_counts : (n : ℕ) (text : List ℕ) (rest : Script) → Counts n rest → Counts (suc n) (after (text ∷ []) rest)
on_counts n text rest later e = ap suc (later e)

follow_counts : (line : ℕ) (reply : Reply) (then : ScenarioState → Script → Type 0) (script : Script) (n : ℕ) → EachRest then (Counts n) → Follows line reply then script → Counts (suc n) script
follow_counts line (Goes text t) then script n later f = subst (Counts (suc n)) (sym f.2) (on_counts n text f.0 (later t f.0 f.1))
follow_counts line (Happens w act s) then script n later f = subst (Counts (suc n)) (sym f.5) (on_counts n f.0 f.2 (later f.1 f.2 f.4))
follow_counts line (Ends reason) then script n later f = subst (Counts (suc n)) (sym f) (λ e. absurd (false≢true (sym e)))

from_counts : (s : ScenarioState) (lines : List (List ℕ)) (script : Script) → MayAnswer s lines script → Counts (length lines) script
from_counts s [] script f = subst (Counts 0) (sym f) (λ e. refl)
from_counts s (line ∷ lines) script f =
    let next = at_next_line s in
    follow_counts next.line (reply_to_line next (without_cr line)) (λ t rest. MayAnswer t lines rest) script (length lines) (λ t rest. from_counts t lines rest) f

pub fine_counts : (lines : List (List ℕ)) (script : Script) → MayAnswer at_start lines script → script.refused ≡ false → length script.answers ≡ length lines
fine_counts lines script f = from_counts at_start lines script f
