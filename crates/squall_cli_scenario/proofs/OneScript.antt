-- To any lines there is one script: to each event of a world, and to each command on a row, there is one answer.
use Rattle.std.proofs.Common.{◌≡◌, ℕ, List, [], ◌∷◌, sym, ap, subst, ◌∙◌}
use Rattle.squall_cli_lines.specs.Script.{Script, after}
use Rattle.squall_cli_lines.specs.Words.{without_cr}
use Rattle.squall_protocol.specs.declared.event.Event.TheVariants.{Serve}
use Rattle.squall_protocol.specs.declared.answer.Answer.TheVariants.{Served}
use Rattle.squall_protocol.specs.Worlds.{SameWorld}
use Rattle.squall_protocol.specs.WorldLaws.{same_world}
use Rattle.squall_protocol.proofs.ProtocolLaws.{one_step}
use Rattle.squall_errand.specs.declared.errand.Reply.TheVariants.{Held}
use Rattle.squall_rows.specs.RowSteps.{Act, Plain, Ask, Restart, Outcome, Answered, Ran, Back}
use Rattle.squall_store.specs.declared.command.Command.{Command}
use Rattle.squall_world_rows.specs.Seen.{BytesRow}
use Rattle.squall_world_rows.specs.Maps.{MapWorld, MapStep}
use Rattle.squall_cli_scenario.specs.State.{InWorld, ScenarioState, at_start}
use Rattle.squall_cli_scenario.specs.Replies.{Reply, Goes, Happens, Ends, outcome_line, Happened, at_stage, at_next_line, reply_to_line, Follows, MayAnswer}

-- ---- acts

same_map_world : (w v : MapWorld) → SameWorld w.world v.world → w.map ≡ v.map → w ≡ v
same_map_world w v h e = λ i. record { world = same_world w.world v.world h i; map = e i }

-- an act has one outcome, and one world after it
abbrev OneAct : Outcome BytesRow → Outcome BytesRow → MapWorld → MapWorld → Type 0
OneAct a b v u = (a ≡ b) × (v ≡ u)

one_act : (w v u : MapWorld) (act : Act Command) (a b : Outcome BytesRow) → MapStep w act a v → MapStep w act b u → OneAct a b v u
one_act w v u (Plain e) (Answered a) (Answered b) h g =
    let one = one_step w.world v.world u.world e a b h.0 g.0 in (ap Answered one.0, same_map_world v u one.1 (h.2 ∙ sym g.2))
one_act w v u (Plain e) (Answered a) (Ran s) h g = absurd g.0
one_act w v u (Plain e) (Answered a) Back h g = absurd g.0
one_act w v u (Plain e) (Ran r) b h g = absurd h.0
one_act w v u (Plain e) Back b h g = absurd h.0
one_act w v u (Ask p k after command) (Answered a) (Answered b) h g =
    let one = one_step w.world v.world u.world (Serve p k after) a b h.0.1 g.0.1 in (ap Answered one.0, same_map_world v u one.1 (h.2 ∙ sym g.2))
one_act w v u (Ask p k after command) (Answered a) (Ran s) h g = absurd (h.0.0 (one_step w.world v.world u.world (Serve p k after) a (Served Held) h.0.1 g.0).0)
one_act w v u (Ask p k after command) (Answered a) Back h g = absurd g.0
one_act w v u (Ask p k after command) (Ran r) (Answered b) h g = absurd (g.0.0 (one_step w.world u.world v.world (Serve p k after) b (Served Held) g.0.1 h.0).0)
one_act w v u (Ask p k after command) (Ran r) (Ran s) h g =
    let one = one_step w.world v.world u.world (Serve p k after) (Served Held) (Served Held) h.0 g.0 in (ap Ran (h.1 ∙ sym g.1), same_map_world v u one.1 (h.2 ∙ sym g.2))
one_act w v u (Ask p k after command) (Ran r) Back h g = absurd g.0
one_act w v u (Ask p k after command) Back b h g = absurd h.0
one_act w v u (Restart p) a b h g = absurd h.0

-- ---- lines

-- an act has one answer, and one scenario after it
abbrev SameTurn : List ℕ → List ℕ → ScenarioState → ScenarioState → Type 0
SameTurn text other t u = (text ≡ other) × (t ≡ u)

one_turn : (w : MapWorld) (act : Act Command) (s : ScenarioState) (text other : List ℕ) (t u : ScenarioState) → Happened w act s text t → Happened w act s other u → SameTurn text other t u
one_turn w act s text other t u h g =
    let one : OneAct h.0 g.0 h.1 g.1 = one_act w h.1 g.1 act h.0 g.0 h.2 g.2 in (
      h.3 ∙ ap (outcome_line act) one.0 ∙ sym g.3,
      h.4 ∙ ap (λ v. at_stage s (InWorld v)) one.1 ∙ sym g.4,
    )

-- what the answers to later lines are
abbrev OneRest : (ScenarioState → Script → Type 0) → Type 0
OneRest then = (t : ScenarioState) (a b : Script) → then t a → then t b → a ≡ b

one_follow : (line : ℕ) (reply : Reply) (then : ScenarioState → Script → Type 0) (a b : Script) → OneRest then → Follows line reply then a → Follows line reply then b → a ≡ b
one_follow line (Goes text t) then a b later h g = h.2 ∙ ap (after (text ∷ [])) (later t h.0 g.0 h.1 g.1) ∙ sym g.2
one_follow line (Happens w act s) then a b later h g =
    let turn : SameTurn h.0 g.0 h.1 g.1 = one_turn w act s h.0 g.0 h.1 g.1 h.3 g.3 in
    let rest : h.2 ≡ g.2 = later g.1 h.2 g.2 (subst (λ t. then t h.2) turn.1 h.4) g.4 in
    h.5 ∙ ap (λ text. after (text ∷ []) h.2) turn.0 ∙ ap (after (g.0 ∷ [])) rest ∙ sym g.5
one_follow line (Ends reason) then a b later h g = h ∙ sym g

one_from : (s : ScenarioState) (lines : List (List ℕ)) (a b : Script) → MayAnswer s lines a → MayAnswer s lines b → a ≡ b
one_from s [] a b h g = h ∙ sym g
one_from s (line ∷ lines) a b h g =
    let next = at_next_line s in
    one_follow next.line (reply_to_line next (without_cr line)) (λ t rest. MayAnswer t lines rest) a b (λ t x y. one_from t lines x y) h g

pub one_script : (lines : List (List ℕ)) (a b : Script) → MayAnswer at_start lines a → MayAnswer at_start lines b → a ≡ b
one_script lines a b h g = one_from at_start lines a b h g
