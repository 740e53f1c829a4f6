-- How a world is made, and how an act happens in one.
use Rattle.std.proofs.Common.{◌≡◌, ℕ, ◌<◌, ◌≤◌, nat_lt, nat_le, true, false, List, [], ◌++◌, Result, Ok, Err, Option, None, Some, sym, subst, refl, ap, ◌∙◌, arith}
use Rattle.std.specs.Prelude.{IfOk, IsErr}
use Rattle.std.proofs.lemmas.List.{append-nil}
use Rattle.std.proofs.lemmas.Bool.{false≢true}
use Rattle.std.proofs.lemmas.Bool.Decides.{nat_tests}
use Rattle.std.specs.declared.alloc.AllocError.{AllocError}
use Rattle.squall_key.specs.Keys.{part_limit}
use Rattle.squall_plan.specs.declared.range.PlanRange.{PlanRange}
use Rattle.squall_board.specs.Boards.{BoardValue, empty_board}
use Rattle.squall_wire.specs.Hearing.{FeedValue}
use Rattle.squall_cli_words.specs.declared.reason.Reason.{Reason}
use Rattle.squall_cli_words.specs.declared.reason.Reason.TheVariants.{Limit}
use Rattle.squall_protocol.specs.declared.event.Event.{Event}
use Rattle.squall_protocol.specs.declared.answer.Answer.{Answer}
use Rattle.squall_protocol.specs.Worlds.{SameWorld, most_routers, start}
use Rattle.squall_rows.specs.RowSteps.{Plain, Ask, Outcome, Answered}
use Rattle.squall_cli_events.specs.declared.events.Unfit.{Unfit}
use Rattle.squall_cli_events.specs.AnswerText.{answer_line}
use Rattle.squall_protocol.specs.WorldLaws.{same_world}
use Rattle.squall_world.specs.declared.steps.WorldFault.{WorldFault}
use Rattle.squall_store.specs.declared.command.Command.{Command}
use Rattle.squall_world_rows.specs.Seen.{BytesRow, RowNetValue}
use Rattle.squall_world_rows.specs.Maps.{no_rows, MapWorld, MapStep, mapped}
use Rattle.squall_cli_scenario.specs.State.{StageOf, StageState, BothPlans, InWorld, ScenarioOf, ScenarioState}
use Rattle.squall_cli_scenario.specs.Stages.{stage_meant, meant}
use Rattle.squall_cli_scenario.specs.Replies.{Reply, Happens, limit_where, world_text, first_world, world_of, world_reply, happen_reply, ask_reply, outcome_line}
use Rattle.squall_cli_scenario.specs.Answered.{Answers}

-- the plans are known by other names
pub start_between : (r : Result RowNetValue WorldFault) (old new first second : List PlanRange) (routers : ℕ) → first ≡ old → second ≡ new → IfOk r (λ w. SameWorld (mapped w).world (start first second routers)) → IfOk r (λ w. (mapped w).map ≡ no_rows)
    → IfOk r (λ w. mapped w ≡ first_world old new routers)
start_between (Ok w) old new first second routers e f h bare = (λ i. record { world = same_world (mapped w).world (start first second routers) h i; map = bare i }) ∙ (λ i. first_world (e i) (f i) routers)
start_between (Err fault) old new first second routers e f h bare = tt

above : (n : ℕ) → most_routers < n → nat_lt most_routers n ≡ true
above n h = grind (arith, nat_tests)

within : (n : ℕ) → n ≤ most_routers → nat_lt most_routers n ≡ false
within n h = grind (arith, nat_tests)

-- an allocation failed
pub not_answered : (r : Result (Option Reason) AllocError) (out out' : List ℕ) (s : ScenarioState) (reply : Reply) → IsErr r → Answers r out out' s reply
not_answered (Ok why) out out' s reply h = absurd (false≢true h)
not_answered (Err e) out out' s reply h = tt

-- there are too many routers
pub too_many : (s : ScenarioState) (old new : List PlanRange) (routers : ℕ) (out : List ℕ) → s.stage ≡ BothPlans old new → most_routers < routers → Answers (Ok (Some Limit)) out out s (world_reply s s.stage routers)
too_many s old new routers out stage many =
    subst (λ g. Answers (Ok (Some Limit)) out out s (world_reply s g routers)) (sym stage)
    (subst (λ b. Answers (Ok (Some Limit)) out out s (limit_where b (world_of s old new routers))) (sym (above routers many)) ([], sym (append-nil out), (refl, refl)))

-- the world of the plans, and the scenario after it
made : (l : ℕ) (stage : StageOf RowNetValue) (board : BoardValue) (feed : FeedValue) (old new : List PlanRange) (routers : ℕ) (w : MapWorld) (out out' : List ℕ) → stage_meant stage ≡ BothPlans old new → routers ≤ most_routers → w ≡ first_world old new routers
    → out' ≡ out ++ world_text w.world.parts routers
    → Answers (Ok None) out out' (record { line = l; stage = InWorld w; board = empty_board; feed = feed }) (world_reply (meant (record { line = l; stage = stage; board = board; feed = feed })) (stage_meant stage) routers)
made l stage board feed old new routers w out out' known few is grown =
    let s : ScenarioState = meant (record { line = l; stage = stage; board = board; feed = feed }) in
    let t : ScenarioState = record { line = l; stage = InWorld w; board = empty_board; feed = feed } in
    subst (λ g. Answers (Ok None) out out' t (world_reply s g routers)) (sym known)
    (subst (λ b. Answers (Ok None) out out' t (limit_where b (world_of s old new routers))) (sym (within routers few))
    (world_text w.world.parts routers, grown, (ap (λ (v : MapWorld). world_text v.world.parts routers) is, ap (λ v. record { line = l; stage = InWorld v; board = empty_board; feed = feed }) is)))

pub world_made : (l : ℕ) (stage : StageOf RowNetValue) (board : BoardValue) (feed : FeedValue) (s : ScenarioOf RowNetValue) (old new : List PlanRange) (routers : ℕ) (w : MapWorld) (out out' : List ℕ)
    → record { line = l; stage = stage; board = board; feed = feed } ≡ s → stage_meant stage ≡ BothPlans old new → routers ≤ most_routers → w ≡ first_world old new routers → out' ≡ out ++ world_text w.world.parts routers
    → Answers (Ok None) out out' (record { line = l; stage = InWorld w; board = empty_board; feed = feed }) (world_reply (meant s) (meant s).stage routers)
world_made l stage board feed s old new routers w out out' view_is known few is grown =
    subst (λ (u : ScenarioOf RowNetValue). Answers (Ok None) out out' (record { line = l; stage = InWorld w; board = empty_board; feed = feed }) (world_reply (meant u) (meant u).stage routers)) view_is
    (made l stage board feed old new routers w out out' known few is grown)

-- an event happens in the scenario's world, and its answer is added
pub event_happened : (l : ℕ) (stage : StageOf RowNetValue) (board : BoardValue) (feed : FeedValue) (s : ScenarioOf RowNetValue) (w v : MapWorld) (asked : Result Event Unfit) (event : Event) (answer : Answer) (out out' : List ℕ)
    → record { line = l; stage = stage; board = board; feed = feed } ≡ s → board ≡ empty_board → stage_meant stage ≡ InWorld w → asked ≡ Ok event → MapStep w (Plain event) (Answered answer) v → out' ≡ out ++ answer_line event answer
    → Answers (Ok None) out out' (record { line = l; stage = InWorld v; board = empty_board; feed = feed }) (happen_reply (meant s) (meant s).stage asked)
event_happened l stage board feed s w v asked event answer out out' view_is rests known is step grown =
    let before : ScenarioState = meant (record { line = l; stage = stage; board = board; feed = feed }) in
    let after : BoardValue → ScenarioState = λ b. record { line = l; stage = InWorld v; board = b; feed = feed } in
    subst (λ b. Answers (Ok None) out out' (after b) (happen_reply (meant s) (meant s).stage asked)) rests
    (subst (λ (u : ScenarioOf RowNetValue). Answers (Ok None) out out' (after board) (happen_reply (meant u) (meant u).stage asked)) view_is
    (subst (λ (g : StageState). Answers (Ok None) out out' (after board) (happen_reply before g asked)) (sym known)
    (subst (λ (e : Result Event Unfit). Answers (Ok None) out out' (after board) (happen_reply before (InWorld w) e)) (sym is)
    (answer_line event answer, grown, (Answered answer, v, step, refl, refl)))))

-- ---- commands on rows

-- a partition's number is within its limit
part_within : (part : ℕ) → part < part_limit → nat_le part_limit part ≡ false
part_within part h = grind (arith, nat_tests)

-- a command is done in the scenario's world, and its answer is added; the partition is known by another name
pub command_done : (l : ℕ) (stage : StageOf RowNetValue) (board : BoardValue) (feed : FeedValue) (s : ScenarioOf RowNetValue) (w v : MapWorld) (named part key : ℕ) (command : Command) (outcome : Outcome BytesRow) (out out' : List ℕ)
    → record { line = l; stage = stage; board = board; feed = feed } ≡ s → board ≡ empty_board → stage_meant stage ≡ InWorld w → (part < part_limit) × (named ≡ part) → MapStep w (Ask named key 0 command) outcome v
    → out' ≡ out ++ outcome_line (Ask named key 0 command) outcome → Answers (Ok None) out out' (record { line = l; stage = InWorld v; board = empty_board; feed = feed }) (ask_reply (meant s) (meant s).stage part key command)
command_done l stage board feed s w v named part key command outcome out out' view_is rests known few step grown =
    let before : ScenarioState = meant (record { line = l; stage = stage; board = board; feed = feed }) in
    let after : BoardValue → ScenarioState = λ b. record { line = l; stage = InWorld v; board = b; feed = feed } in
    let taken : MapStep w (Ask part key 0 command) outcome v = subst (λ p. MapStep w (Ask p key 0 command) outcome v) few.1 step in
    let told : out' ≡ out ++ outcome_line (Ask part key 0 command) outcome = subst (λ p. out' ≡ out ++ outcome_line (Ask p key 0 command) outcome) few.1 grown in
    subst (λ b. Answers (Ok None) out out' (after b) (ask_reply (meant s) (meant s).stage part key command)) rests
    (subst (λ (u : ScenarioOf RowNetValue). Answers (Ok None) out out' (after board) (ask_reply (meant u) (meant u).stage part key command)) view_is
    (subst (λ (g : StageState). Answers (Ok None) out out' (after board) (ask_reply before g part key command)) (sym known)
    (subst (λ b. Answers (Ok None) out out' (after board) (limit_where b (Happens w (Ask part key 0 command) before))) (sym (part_within part few.0))
    (outcome_line (Ask part key 0 command) outcome, told, (outcome, v, taken, refl, refl)))))
