-- The partitions and chunks of a run are one map.
use Rattle.std.proofs.Common.{◌≡◌, ℕ, ◌==◌, List, [], ◌∷◌, sym, ap, ◌∙◌, subst}
use Rattle.std.specs.Prelude.{Some, nat_lt}
use Rattle.std.specs.List.{slice_get}
use Rattle.std.proofs.lemmas.Bool.{and_parts, eqb-true}
use Rattle.squall_key.specs.Keys.{top}
use Rattle.squall_plan.specs.declared.range.PlanRange.{PlanRange}
use Rattle.squall_plan.specs.Ranges.{owner_of}
use Rattle.squall_errand.specs.declared.errand.Reply.TheVariants.{Held}
use Rattle.squall_protocol.specs.declared.event.Event.TheVariants.{Serve}
use Rattle.squall_protocol.specs.declared.answer.Answer.TheVariants.{Served}
use Rattle.squall_protocol.specs.Worlds.{WorldValue}
use Rattle.squall_protocol.specs.Promises.{IsReached, Holder, Flight, OneCarrier}
use Rattle.squall_rows.specs.Rows.{RowsValue, Starts}
use Rattle.squall_rows.specs.RowSteps.{Act, Outcome, Plain, Ask, Restart, Answered, Ran, Back, RowStep, RowRun}
use Rattle.squall_rows.specs.OneMap.{first_map, after_one, after_all, IsMapReply, AreMapReplies, RepliesOfOneMap, RowsOfOneMap}
use Rattle.squall_protocol.specs.WorldLaws.{same_world, reached_start, reached_step}
use Rattle.squall_rows.proofs.Quiet.{HasRows, unchanged, quiet_rows}
use Rattle.squall_rows.proofs.Plain.{plain_rows}
use Rattle.squall_rows.proofs.Ran.{ran_reply, ran_rows}

-- what squall_protocol promises of each world to which a run leads
abbrev pub Promised : Type 0
Promised = (w : WorldValue) → IsReached w → OneCarrier w

-- the first map has the rows of the world as it begins
first_rows : {Row : Type 0} (old new : List PlanRange) (routers : ℕ) (w : RowsValue Row) → Starts old new routers w → HasRows w (first_map old w)
first_rows old new routers w same k key (Holder p) c =
    let held : owner_of old k ≡ p = eqb-true (owner_of old k) p (and_parts (nat_lt k top) (owner_of old k == p) (sym (same.held p k) ∙ c)).1 in
    ap (λ q. w.stored q k) (sym held)
first_rows old new routers w same k key (Flight i) c = absurd (none (subst (λ xs. slice_get xs i ≡ Some c.0) same.chunks c.1))
  where
    none : slice_get [] i ≡ Some c.0 → ⊥
    none e = cc

module _ {Row Command Reply : Type 0} (run : Command → Row → Row × Reply) (one : Promised) where
  -- ---- one step

  record After (w v : RowsValue Row) (m : ℕ → Row) (a : Act Command) (o : Outcome Reply) : Type 0 where
    reached : IsReached v.world
    reply : IsMapReply run m a o
    rows : HasRows v (after_one run m a o)

  after_step : (w v : RowsValue Row) (m : ℕ → Row) (a : Act Command) (o : Outcome Reply) → IsReached w.world → HasRows w m → RowStep run w a o v → After w v m a o
  after_step w v m (Plain e) (Answered r) reached rows step =
      record { reached = reached_step w.world v.world e r reached step.0; reply = tt; rows = plain_rows w v m e r step rows }
  after_step w v m (Ask p k after command) (Answered r) reached rows step =
      record { reached = reached_step w.world v.world (Serve p k after) r reached step.1.0; reply = tt; rows = plain_rows w v m (Serve p k after) r step.1 rows }
  after_step w v m (Ask p k after command) (Ran reply) reached rows step =
      record {
        reached = reached_step w.world v.world (Serve p k after) (Served Held) reached step.1;
        reply = ran_reply run w v m p k after command reply step rows;
        rows = ran_rows run w v m p k after command reply (one w.world reached) step rows;
      }
  after_step w v m (Restart p) Back reached rows step =
      record { reached = subst (λ x. IsReached x) (sym (same_world v.world w.world step.0)) reached; reply = tt; rows = quiet_rows w v m (unchanged w.world v.world step.0) step.1 step.2 rows }
  after_step w v m a o reached rows step = absurd step

  -- ---- all steps

  record AfterAll (w v : RowsValue Row) (m : ℕ → Row) (acts : List (Act Command)) (outcomes : List (Outcome Reply)) : Type 0 where
    reached : IsReached v.world
    replies : AreMapReplies run m acts outcomes
    rows : HasRows v (after_all run m acts outcomes)

  after_run : (w v : RowsValue Row) (m : ℕ → Row) (acts : List (Act Command)) (outcomes : List (Outcome Reply))
      → IsReached w.world → HasRows w m → RowRun run w acts outcomes v → AfterAll w v m acts outcomes
  after_run w v m [] [] reached rows h =
      record { reached = subst (λ (u : RowsValue Row). IsReached u.world) (sym h) reached; replies = tt; rows = subst (λ (u : RowsValue Row). HasRows u m) (sym h) rows }
  after_run w v m (a ∷ acts) (o ∷ outcomes) reached rows h =
      let first : After w h.0 m a o = after_step w h.0 m a o reached rows h.1 in
      let rest : AfterAll h.0 v (after_one run m a o) acts outcomes = after_run h.0 v (after_one run m a o) acts outcomes first.reached first.rows h.2 in
      record { reached = rest.reached; replies = (first.reply, rest.replies); rows = rest.rows }
  after_run w v m [] (o ∷ outcomes) reached rows h = absurd h
  after_run w v m (a ∷ acts) [] reached rows h = absurd h

  pub replies_of_one_map : RepliesOfOneMap run
  replies_of_one_map old new routers w v acts outcomes old_plan new_plan starts h =
      (after_run w v (first_map old w) acts outcomes (reached_start old new routers w.world old_plan new_plan starts) (first_rows old new routers w starts) h).replies

  pub rows_of_one_map : RowsOfOneMap run
  rows_of_one_map old new routers w v acts outcomes old_plan new_plan starts h k key =
      let all : AfterAll w v (first_map old w) acts outcomes =
      after_run w v (first_map old w) acts outcomes (reached_start old new routers w.world old_plan new_plan starts) (first_rows old new routers w starts) h in
      let only = one v.world all.reached k key in
      (only.0, only.1, only.2, all.rows k key only.0 only.1)
