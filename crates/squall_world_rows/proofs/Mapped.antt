-- What an act makes of the map of a world with rows.
use Rattle.std.proofs.Common.{◌≡◌, ℕ, ◌==◌, ◌<◌, false, Result, Ok, Err, IfOk, sym, ap, subst, ◌∙◌}
use Rattle.std.specs.declared.alloc.AllocError.{AllocError}
use Rattle.std.specs.Prelude.{None, nat_lt}
use Rattle.std.proofs.lemmas.Bool.{cond-false, ne_eqb, lt-ltb, both_ways}
use Rattle.squall_key.specs.Keys.{top}
use Rattle.squall_protocol.specs.declared.event.Event.{Event}
use Rattle.squall_protocol.specs.declared.answer.Answer.{Answer}
use Rattle.squall_protocol.specs.Promises.{IsReached}
use Rattle.squall_protocol.specs.WorldLaws.{reached_step}
use Rattle.squall_protocol.proofs.ProtocolLaws.{one_carrier}
use Rattle.squall_errand.specs.declared.errand.Reply.TheVariants.{Held}
use Rattle.squall_protocol.specs.declared.event.Event.TheVariants.{Serve}
use Rattle.squall_protocol.specs.declared.answer.Answer.TheVariants.{Served}
use Rattle.squall_rows.specs.Rows.{RowsValue}
use Rattle.squall_rows.specs.RowSteps.{Outcome, Plain, Ask, Answered, Ran, Back, PlainStep, RunStep, RowStep}
use Rattle.squall_rows.specs.OneMap.{with_row}
use Rattle.squall_rows.proofs.Quiet.{HasRows}
use Rattle.squall_rows.proofs.Plain.{plain_rows}
use Rattle.squall_rows.proofs.Ran.{ran_reply, ran_rows}
use Rattle.squall_store.specs.declared.command.Command.{Command}
use Rattle.squall_store.specs.Memory.{run_on}
use Rattle.squall_world.specs.Views.{view}
use Rattle.squall_world_rows.specs.Seen.{BytesRow, RowNetValue, seen}
use Rattle.squall_world_rows.specs.Maps.{map_of, MapStep, mapped}
use Rattle.squall_world_rows.proofs.Carried.{map_is, beyond_keys, has_map}

-- an event leaves the map alone
pub event_keeps : (w v : RowsValue BytesRow) (e : Event) (a : Answer) → IsReached w.world → PlainStep w e a v → map_of v ≡ map_of w
event_keeps w v e a reached step = map_is v (map_of w) (reached_step w.world v.world e a reached step.0) (plain_rows w v (map_of w) e a step (has_map w reached)) (beyond_keys w)

module _ {Command : Type 0} (run : Command → BytesRow → BytesRow × BytesRow) (w v : RowsValue BytesRow) (p k after : ℕ) (command : Command) (reply : BytesRow) where
  -- a command that ran replies by the map's row
  pub command_replies : IsReached w.world → RunStep run w p k after command reply v → reply ≡ (run command (map_of w k)).1
  command_replies reached step = ran_reply run w v (map_of w) p k after command reply step (has_map w reached)

  -- and changes that row of the map
  pub command_changes : IsReached w.world → RunStep run w p k after command reply v → map_of v ≡ with_row (map_of w) k (run command (map_of w k)).0
  command_changes reached step =
      map_is v (with_row (map_of w) k (run command (map_of w k)).0) (reached_step w.world v.world (Serve p k after) (Served Held) reached step.1)
      (ran_rows run w v (map_of w) p k after command reply (one_carrier w.world reached) step (has_map w reached)) beyond
    where
      beyond : (j : ℕ) → nat_lt j top ≡ false → with_row (map_of w) k (run command (map_of w k)).0 j ≡ None
      beyond j past =
          cond-false (j == k) (run command (map_of w k)).0 (map_of w j) (ne_eqb j k (λ same. both_ways (nat_lt j top) past (lt-ltb j top (subst (λ i. i < top) (sym same) step.0))))
          ∙ beyond_keys w j past

-- ---- a world with one map

-- so a step with rows is one of a world with one map
pub event_maps : (n m : RowNetValue) (e : Event) (a : Answer) → IsReached (view n.net) → PlainStep (seen n) e a (seen m) → MapStep (mapped n) (Plain e) (Answered a) (mapped m)
event_maps n m e a reached step = (step.0, tt, event_keeps (seen n) (seen m) e a reached step)

pub ask_maps : (n m : RowNetValue) (p k after : ℕ) (command : Command) (o : Outcome BytesRow) → IsReached (view n.net) → RowStep run_on (seen n) (Ask p k after command) o (seen m)
    → MapStep (mapped n) (Ask p k after command) o (mapped m)
ask_maps n m p k after command (Answered a) reached step = ((step.0, step.1.0), tt, event_keeps (seen n) (seen m) (Serve p k after) a reached step.1)
ask_maps n m p k after command (Ran reply) reached step =
    (step.1, command_replies run_on (seen n) (seen m) p k after command reply reached step, command_changes run_on (seen n) (seen m) p k after command reply reached step)
ask_maps n m p k after command Back reached step = absurd step

pub step_maps : (n m : RowNetValue) (e : Event) (r : Result Answer AllocError) → IsReached (view n.net) → IfOk r (λ a. PlainStep (seen n) e a (seen m)) → IfOk r (λ a. MapStep (mapped n) (Plain e) (Answered a) (mapped m))
step_maps n m e (Ok a) reached step = event_maps n m e a reached step
step_maps n m e (Err x) reached step = tt
