-- How a world with rows came about, and what always holds of it.
use Rattle.std.specs.Prelude.{◌≡◌, ℕ, Bool, true, List, Option, None, Some, map}
use Rattle.std.specs.List.{slice_get}
use Rattle.squall_span.specs.Spans.{span_has}
use Rattle.squall_plan.specs.declared.range.PlanRange.{PlanRange}
use Rattle.squall_protocol.specs.Steps.{IsPlan}
use Rattle.squall_rows.specs.Rows.{RowsValue, Starts, AreOneMap}
use Rattle.squall_rows.specs.RowSteps.{Act, Outcome, RowRun}
use Rattle.squall_rows.specs.OneMap.{AreMapReplies, after_all}
use Rattle.squall_store.specs.declared.command.Command.{Command}
use Rattle.squall_store.specs.Memory.{run_on}
use Rattle.squall_world.specs.Views.{view}
use Rattle.squall_world_rows.specs.declared.sent.Sent.{Sent}
use Rattle.squall_world_rows.specs.Seen.{BytesRow, RowNetValue, seen}
use Rattle.squall_world_rows.specs.Maps.{no_rows}

-- a run from two plans leads to the world, by these acts with these outcomes. At first no key has a row
pub record HasCome (w : RowsValue BytesRow) : Type 0 where
  pub old : List PlanRange
  pub new : List PlanRange
  pub routers : ℕ
  pub first : RowsValue BytesRow
  pub acts : List (Act Command)
  pub outcomes : List (Outcome BytesRow)
  pub old_plan : IsPlan old
  pub new_plan : IsPlan new
  pub starts : Starts old new routers first
  pub empty : (p k : ℕ) → first.stored p k ≡ None
  pub run : RowRun run_on first acts outcomes w

-- A run led to the world. Each command that ran in it had the reply of one map, which began without rows. Each key has one carrier, and its
-- row there is that map's
pub record IsOneMap (w : RowsValue BytesRow) : Type 0 where
  pub come : HasCome w
  pub replies : AreMapReplies run_on no_rows come.acts come.outcomes
  pub rows : AreOneMap w (after_all run_on no_rows come.acts come.outcomes)

-- each chunk is kept, whether it was loaded is noted, and a run leads to the world
pub record IsRowWorld (n : RowNetValue) : Type 0 where
  pub chunks : map (λ (s : Sent). s.chunk) n.sent ≡ n.net.chunks
  pub loaded : (i k : ℕ) (s : Sent) → slice_get n.sent i ≡ Some s → span_has s.chunk.span k ≡ true → (view n.net).loaded s.chunk.number s.chunk.dest k ≡ s.loaded
  pub come : HasCome (seen n)
