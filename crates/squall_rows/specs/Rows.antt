-- Worlds with rows: the row of each key at each partition, and in each chunk (a map in shards that are handed on, proved to be one map:
-- IronKV of IronFleet, SOSP 2015; this project: chunks that are lost, repeated and late, and any number of courses).
use Rattle.std.specs.Prelude.{◌≡◌, ℕ, ◌<◌, true, List, Some}
use Rattle.std.specs.List.{slice_get}
use Rattle.squall_key.specs.Keys.{top}
use Rattle.squall_plan.specs.declared.range.PlanRange.{PlanRange}
use Rattle.squall_protocol.specs.Chunks.{ChunkValue}
use Rattle.squall_protocol.specs.Worlds.{WorldValue, SameWorld, start}
use Rattle.squall_protocol.specs.Promises.{Carrier, Holder, Flight, IsInFlight, Carries}

-- A world with rows. A row is whatever lies under one key: in a database in which a key may have no value it is an `Option`.
pub record RowsValue (Row : Type 0) : Type 0 where
  pub world : WorldValue
  -- the row of a key at a partition; if the partition doesn't hold the key, this is what was left there, and means nothing
  pub stored : ℕ → ℕ → Row
  -- the row of a key in the chunk of an index
  pub carried : ℕ → ℕ → Row

-- the world with rows begins with any rows
abbrev pub Starts : {Row : Type 0} → List PlanRange → List PlanRange → ℕ → RowsValue Row → Type 0
Starts old new routers w = SameWorld w.world (start old new routers)

-- the row of the key at its carrier
abbrev pub carried_row : {Row : Type 0} → RowsValue Row → Carrier → ℕ → Row
carried_row w (Holder p) k = w.stored p k
carried_row w (Flight i) k = w.carried i k

-- each key has one carrier, and its row there is the map's
abbrev pub AreOneMap : {Row : Type 0} → RowsValue Row → (ℕ → Row) → Type 0
AreOneMap w m = (k : ℕ) → k < top → (x : Carrier) × Carries w.world k x × ((y : Carrier) → Carries w.world k y → y ≡ x) × (carried_row w x k ≡ m k)

-- ---- what a step leaves alone

-- a partition that holds a key before and after keeps its row
abbrev pub KeepsStored : {Row : Type 0} → RowsValue Row → RowsValue Row → Type 0
KeepsStored w v = (p k : ℕ) → k < top → w.world.held p k ≡ true → v.world.held p k ≡ true → v.stored p k ≡ w.stored p k

-- a chunk keeps the rows of the keys that are not loaded; rows of loaded keys may be thrown away
abbrev pub KeepsCarried : {Row : Type 0} → RowsValue Row → RowsValue Row → Type 0
KeepsCarried w v = (i k : ℕ) (x : ChunkValue) → k < top → slice_get w.world.chunks i ≡ Some x → IsInFlight w.world x k → v.carried i k ≡ w.carried i k
