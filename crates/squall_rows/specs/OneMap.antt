-- One map from keys to rows, in which no partition, chunk or course is seen (a map in shards refines one map: IronKV of IronFleet, SOSP
-- 2015).
use Rattle.std.specs.Prelude.{◌≡◌, ℕ, ◌==◌, List, [], ◌∷◌, if◌then◌else◌}
use Rattle.squall_plan.specs.declared.range.PlanRange.{PlanRange}
use Rattle.squall_plan.specs.Ranges.{owner_of}
use Rattle.squall_protocol.specs.Steps.{IsPlan}
use Rattle.squall_rows.specs.Rows.{RowsValue, Starts, AreOneMap}
use Rattle.squall_rows.specs.RowSteps.{Act, Outcome, Ask, Ran, RowRun}

-- the map at first: of each key the row at its owner by the old plan
abbrev pub first_map : {Row : Type 0} → List PlanRange → RowsValue Row → ℕ → Row
first_map old w k = w.stored (owner_of old k) k

-- the map with another row of one key
abbrev pub with_row : {Row : Type 0} → (ℕ → Row) → ℕ → Row → ℕ → Row
with_row m k row j = if j == k then row else m j

module _ {Row Command Reply : Type 0} (run : Command → Row → Row × Reply) where
  -- a command that ran changes the map, and nothing else does
  abbrev pub after_one : (ℕ → Row) → Act Command → Outcome Reply → ℕ → Row
  after_one m (Ask p k after command) (Ran reply) = with_row m k (run command (m k)).0
  after_one m a o = m

  -- the map after all of these
  abbrev pub after_all : (ℕ → Row) → List (Act Command) → List (Outcome Reply) → ℕ → Row
  after_all m (a ∷ acts) (o ∷ outcomes) = after_all (after_one m a o) acts outcomes
  after_all m [] outcomes = m
  after_all m (a ∷ acts) [] = m

  -- a command that ran has the map's reply
  abbrev pub IsMapReply : (ℕ → Row) → Act Command → Outcome Reply → Type 0
  IsMapReply m (Ask p k after command) (Ran reply) = reply ≡ (run command (m k)).1
  IsMapReply m a o = Unit {0}

  -- each command of these has the map's reply, at its turn
  abbrev pub AreMapReplies : (ℕ → Row) → List (Act Command) → List (Outcome Reply) → Type 0
  AreMapReplies m (a ∷ acts) (o ∷ outcomes) = IsMapReply m a o × AreMapReplies (after_one m a o) acts outcomes
  AreMapReplies m [] outcomes = Unit {0}
  AreMapReplies m (a ∷ acts) [] = Unit {0}

  -- in every run each reply is the reply of one map
  abbrev pub RepliesOfOneMap : Type 0
  RepliesOfOneMap =
      (old new : List PlanRange) (routers : ℕ) (w v : RowsValue Row) (acts : List (Act Command)) (outcomes : List (Outcome Reply))
      → IsPlan old → IsPlan new → Starts old new routers w → RowRun run w acts outcomes v → AreMapReplies (first_map old w) acts outcomes

  -- after every run the partitions and chunks together are that map
  abbrev pub RowsOfOneMap : Type 0
  RowsOfOneMap =
      (old new : List PlanRange) (routers : ℕ) (w v : RowsValue Row) (acts : List (Act Command)) (outcomes : List (Outcome Reply))
      → IsPlan old → IsPlan new → Starts old new routers w → RowRun run w acts outcomes v → AreOneMap v (after_all (first_map old w) acts outcomes)
