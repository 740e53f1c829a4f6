-- A world with rows that a run leads to is one map, and goes on by acts.
use Rattle.std.proofs.Common.{◌≡◌, ℕ, List, [], ◌∷◌, ◌++◌, refl, sym, ap, subst}
use Rattle.std.specs.Prelude.{None}
use Rattle.squall_plan.specs.declared.range.PlanRange.{PlanRange}
use Rattle.squall_plan.specs.Ranges.{owner_of}
use Rattle.squall_protocol.specs.Steps.{IsPlan}
use Rattle.squall_rows.specs.Rows.{RowsValue, Starts, AreOneMap}
use Rattle.squall_rows.specs.RowSteps.{Act, Outcome, Plain, Ask, Restart, Answered, Ran, Back, RowStep, RestartStep, RowRun}
use Rattle.squall_rows.specs.OneMap.{first_map, after_all, AreMapReplies, RepliesOfOneMap, RowsOfOneMap}
use Rattle.squall_store.specs.declared.command.Command.{Command}
use Rattle.squall_store.specs.Memory.{run_on}
use Rattle.squall_world_rows.specs.Seen.{BytesRow}
use Rattle.squall_world_rows.specs.Maps.{no_rows}
use Rattle.squall_world_rows.specs.Runs.{HasCome, IsOneMap}

-- a run goes on by one more act
run_more : (w : RowsValue BytesRow) (acts : List (Act Command)) (outcomes : List (Outcome BytesRow)) (v : RowsValue BytesRow) (a : Act Command) (o : Outcome BytesRow) (u : RowsValue BytesRow)
    → RowRun run_on w acts outcomes v → RowStep run_on v a o u → RowRun run_on w (acts ++ a ∷ []) (outcomes ++ o ∷ []) u
run_more w [] [] v a o u run step = (u, subst (λ (x : RowsValue BytesRow). RowStep run_on x a o u) run step, refl)
run_more w (b ∷ acts) (q ∷ outcomes) v a o u run step = (run.0, run.1, run_more run.0 acts outcomes v a o u run.2 step)
run_more w [] (q ∷ outcomes) v a o u run step = absurd run
run_more w (b ∷ acts) [] v a o u run step = absurd run

-- so a run leads to the world after an act
pub come_on : (w v : RowsValue BytesRow) (a : Act Command) (o : Outcome BytesRow) → HasCome w → RowStep run_on w a o v → HasCome v
come_on w v a o come step =
    record {
      old = come.old;
      new = come.new;
      routers = come.routers;
      first = come.first;
      acts = come.acts ++ a ∷ [];
      outcomes = come.outcomes ++ o ∷ [];
      old_plan = come.old_plan;
      new_plan = come.new_plan;
      starts = come.starts;
      empty = come.empty;
      run = run_more come.first come.acts come.outcomes w a o v come.run step;
    }

-- a call that changed nothing that counts is a restart
pub come_back : (w v : RowsValue BytesRow) → HasCome w → RestartStep w v → HasCome v
come_back w v come step = come_on w v (Restart 0) Back come step

-- and no act leads from a world as it begins to itself
pub comes_first : (old new : List PlanRange) (routers : ℕ) (w : RowsValue BytesRow) → IsPlan old → IsPlan new → Starts old new routers w → ((p k : ℕ) → w.stored p k ≡ None) → HasCome w
comes_first old new routers w old_plan new_plan starts empty =
    record {
      old = old;
      new = new;
      routers = routers;
      first = w;
      acts = [];
      outcomes = [];
      old_plan = old_plan;
      new_plan = new_plan;
      starts = starts;
      empty = empty;
      run = refl;
    }

pub one_map_of : (w : RowsValue BytesRow) → RepliesOfOneMap run_on → RowsOfOneMap run_on → HasCome w → IsOneMap w
one_map_of w replies rows come =
    let none : first_map come.old come.first ≡ no_rows = λ i. λ k. come.empty (owner_of come.old k) k i in
    record {
      come = come;
      replies = subst (λ m. AreMapReplies run_on m come.acts come.outcomes) none
          (replies come.old come.new come.routers come.first w come.acts come.outcomes come.old_plan come.new_plan come.starts come.run);
      rows = subst (λ m. AreOneMap w (after_all run_on m come.acts come.outcomes)) none
          (rows come.old come.new come.routers come.first w come.acts come.outcomes come.old_plan come.new_plan come.starts come.run);
    }
