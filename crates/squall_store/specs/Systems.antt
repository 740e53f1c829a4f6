-- A system of stores: the nodes of a system, the rows of each partition's store, and the copies that travel with chunks (this project). All
-- that happens in it are calls of its stores and of its other nodes.
use Rattle.std.specs.Prelude.{◌≡◌, ◌≢◌, ℕ, ◌<◌, ◌==◌, true, List, [], ◌∷◌, ◌++◌, length, Result, Ok, Err, Some, OnOk, if◌then◌else◌}
use Rattle.std.specs.List.{slice_get}
use Rattle.squall_key.specs.Keys.{top}
use Rattle.squall_span.specs.Spans.{has, span_has}
use Rattle.squall_plan.specs.declared.range.PlanRange.{PlanRange}
use Rattle.squall_plan.specs.Ranges.{owner_of}
use Rattle.squall_course.specs.Change.{Change}
use Rattle.squall_protocol.specs.Chunks.{ChunkValue}
use Rattle.squall_protocol.specs.Steps.{IsPlan}
use Rattle.squall_protocol.specs.Promises.{Carrier, Holder, Flight}
use Rattle.squall_part.specs.declared.giving.GiveFault.{GiveFault}
use Rattle.squall_part.specs.declared.loading.LoadFault.{LoadFault}
use Rattle.squall_part.specs.declared.loading.Load.{Load}
use Rattle.squall_part.specs.Parts.{PartValue, IsPart}
use Rattle.squall_part.specs.Giving.{IsGiven, IsGivenAt}
use Rattle.squall_replay.specs.Calls.{IsSamePart}
use Rattle.squall_nodes.specs.PartCalls.{with_chunk}
use Rattle.squall_nodes.specs.Systems.{SystemValue, first_change, first_system, with_part, Happens}
use Rattle.squall_nodes.specs.Kept.{CarriesIn}
use Rattle.squall_rows.specs.OneMap.{with_row}
use Rattle.squall_store.specs.declared.store.Asked.{Asked}
use Rattle.squall_store.specs.declared.store.Asked.TheVariants.{Ran, NotHeld}
use Rattle.squall_store.specs.Stores.{IsAsked, IsAnswered, NewRowsAre, OthersStay}

pub record StoresValue (Row : Type 0) : Type 0 where
  pub nodes : SystemValue
  -- the row of a key in the store of a partition
  pub rows : ℕ → ℕ → Row
  -- the row of a key in the copies that travel with the chunk of an index
  pub copies : ℕ → ℕ → Row

-- ---- what a call leaves

-- the store of a partition has these rows now
abbrev pub rows_with : {Row : Type 0} → ℕ → (ℕ → Row) → (ℕ → ℕ → Row) → ℕ → ℕ → Row
rows_with p next rows q k = if q == p then next k else rows q k

-- if a chunk was given, these are the copies of its index
abbrev pub copies_with : {Row : Type 0} → ℕ → (ℕ → Row) → Result ChunkValue GiveFault → (ℕ → ℕ → Row) → ℕ → ℕ → Row
copies_with i rows (Ok x) copies j k = if j == i then rows k else copies j k
copies_with i rows (Err f) copies j k = copies j k

-- a command was asked of the store
abbrev pub after_command : {Row : Type 0} → StoresValue Row → ℕ → (ℕ → Row) → StoresValue Row
after_command s p next = record s { rows = rows_with p next s.rows }

-- the store gave, or was to give: a chunk takes copies of its rows along
abbrev pub after_gift : {Row : Type 0} → StoresValue Row → ℕ → PartValue → Result ChunkValue GiveFault → StoresValue Row
after_gift s p b r =
    record s { nodes = with_part s.nodes p b (with_chunk s.nodes.chunks r); copies = copies_with (length s.nodes.chunks) (s.rows p) r s.copies }

-- the store has another partition and other rows
abbrev pub with_store : {Row : Type 0} → StoresValue Row → ℕ → PartValue → (ℕ → Row) → StoresValue Row
with_store s p b next = record s { nodes = with_part s.nodes p b s.nodes.chunks; rows = rows_with p next s.rows }

-- the store has another partition, and its rows stay
abbrev pub with_partition : {Row : Type 0} → StoresValue Row → ℕ → PartValue → StoresValue Row
with_partition s p b = record s { nodes = with_part s.nodes p b s.nodes.chunks }

-- no chunk was given, and each key that a partition holds was held there before
pub record MovesNoKey (s t : SystemValue) : Type 0 where
  pub chunks : t.chunks ≡ s.chunks
  pub held : (p k : ℕ) (b : PartValue) → t.parts p ≡ Some b → has b.held k ≡ true → (a : PartValue) × (s.parts p ≡ Some a) × (has a.held k ≡ true)

-- a batch has the rows of the copies that travel with the chunk of an index
abbrev pub HasCopies : {Row : Type 0} → StoresValue Row → ℕ → ChunkValue → (ℕ → Row) → Type 0
HasCopies s i x batch = (k : ℕ) → k < top → span_has x.span k ≡ true → batch k ≡ s.copies i k

-- ---- commands that ran

-- a command that ran: the key, what was asked, and the reply
pub record Done (Command Reply : Type 0) : Type 0 where
  pub key : ℕ
  pub command : Command
  pub reply : Reply

-- the command, if it ran
abbrev pub done_by : {Command Reply : Type 0} → ℕ → Command → Asked Reply → List (Done Command Reply)
done_by k command (Ran reply) = record { key = k; command = command; reply = reply } ∷ []
done_by k command (NotHeld reply) = []

-- ---- what happens

-- One call of a store or of another node, with the command that ran by it. A load brings the copies of the chunk's keys. A store may die and
-- come back: its partition is rebuilt from the log of its calls, and it has the rows of the keys that it holds. Any other row may be gone.
-- Every other call of a node leaves the rows alone: one that gives no chunk, and after which no partition holds another key
pub data StoreCall {Row Command Reply : Type 0} (run : Command → Row → Row × Reply) (first : Change) (s : StoresValue Row)
    : List (Done Command Reply) → StoresValue Row → Type 0 where
  asks : (p k after : ℕ) (command : Command) (a : PartValue) (next : ℕ → Row) (asked : Asked Reply)
      → s.nodes.parts p ≡ Some a → k < top → IsAsked run a k after command (s.rows p k) (next k) asked → ((j : ℕ) → j ≢ k → next j ≡ s.rows p j)
      → StoreCall run first s (done_by k command asked) (after_command s p next)
  gives : (p most : ℕ) (a b : PartValue) (r : Result ChunkValue GiveFault) → s.nodes.parts p ≡ Some a → IsGiven a most r b → IsPart b
      → StoreCall run first s [] (after_gift s p b r)
  gives_at : (p k : ℕ) (a b : PartValue) (r : Result ChunkValue GiveFault) → s.nodes.parts p ≡ Some a → IsGivenAt a k r b → IsPart b
      → StoreCall run first s [] (after_gift s p b r)
  loads : (i : ℕ) (x : ChunkValue) (a b : PartValue) (r : Result Load LoadFault) (next batch : ℕ → Row)
      → slice_get s.nodes.chunks i ≡ Some x → s.nodes.parts x.dest ≡ Some a → HasCopies s i x batch
      → IsAnswered a x r b → OnOk r (NewRowsAre batch a x next) → OthersStay a x (s.rows x.dest) next → IsPart b
      → StoreCall run first s [] (with_store s x.dest b next)
  restarts : (p : ℕ) (a b : PartValue) (next : ℕ → Row)
      → s.nodes.parts p ≡ Some a → IsSamePart a b → IsPart b → ((k : ℕ) → k < top → has a.held k ≡ true → next k ≡ s.rows p k)
      → StoreCall run first s [] (with_store s p b next)
  others : (t : SystemValue) → Happens first s.nodes t → MovesNoKey s.nodes t → StoreCall run first s [] (record s { nodes = t })

-- to what a system comes by such calls, one after another, and the commands that ran by them, in their order
pub data StoresCome {Row Command Reply : Type 0} (run : Command → Row → Row × Reply) (first : Change) (s : StoresValue Row)
    : List (Done Command Reply) → StoresValue Row → Type 0 where
  none_yet : StoresCome run first s [] s
  one_more : (t u : StoresValue Row) (before now : List (Done Command Reply)) → StoresCome run first s before t → StoreCall run first t now u
      → StoresCome run first s (before ++ now) u

-- a run: both are plans, the system began between them with any rows, and came about by calls
pub record IsStoreRun {Row Command Reply : Type 0} (run : Command → Row → Row × Reply) (old new : List PlanRange) (routers : ℕ)
    (s : StoresValue Row) (done : List (Done Command Reply)) (t : StoresValue Row) : Type 0 where
  pub old_plan : IsPlan old
  pub new_plan : IsPlan new
  pub starts : s.nodes ≡ first_system old new routers
  pub come : StoresCome run (first_change old new) s done t

-- ---- calls in a system

-- the store of that number has this partition and these rows
pub record IsStoreIn {Row : Type 0} (s : StoresValue Row) (p : ℕ) (a : PartValue) (rows : ℕ → Row) : Type 0 where
  pub part : s.nodes.parts p ≡ Some a
  pub has_rows : (k : ℕ) → s.rows p k ≡ rows k

-- the call happens in the system, and then the store of that number has this partition and these rows
abbrev pub IsCalledIn : {Row Command Reply : Type 0} → (Command → Row → Row × Reply) → Change → StoresValue Row → List (Done Command Reply) → StoresValue Row
    → ℕ → PartValue → (ℕ → Row) → Type 0
IsCalledIn run first s done t p b next = StoreCall run first s done t × IsStoreIn t p b next

-- ---- one map

-- the map at first: of each key the row in the store of its owner by the old plan
abbrev pub first_rows : {Row : Type 0} → StoresValue Row → List PlanRange → ℕ → Row
first_rows s old k = s.rows (owner_of old k) k

-- the row of a key in the store that holds it, or in the copies of the chunk that has it on its way
abbrev pub row_at : {Row : Type 0} → StoresValue Row → Carrier → ℕ → Row
row_at s (Holder p) k = s.rows p k
row_at s (Flight i) k = s.copies i k

module _ {Row Command Reply : Type 0} (run : Command → Row → Row × Reply) where
  -- the map after these commands
  abbrev pub after_done : (ℕ → Row) → List (Done Command Reply) → ℕ → Row
  after_done m (d ∷ done) = after_done (with_row m d.key (run d.command (m d.key)).0) done
  after_done m [] = m

  -- each of these commands has the map's reply, at its turn
  abbrev pub AreRepliesOf : (ℕ → Row) → List (Done Command Reply) → Type 0
  AreRepliesOf m (d ∷ done) = (d.reply ≡ (run d.command (m d.key)).1) × AreRepliesOf (with_row m d.key (run d.command (m d.key)).0) done
  AreRepliesOf m [] = Unit {0}

  -- in every system of stores the replies are those of one map, in the order of the calls
  abbrev pub StoresReplyAsOneMap : Type 0
  StoresReplyAsOneMap =
      (old new : List PlanRange) (routers : ℕ) (s t : StoresValue Row) (done : List (Done Command Reply)) → IsStoreRun run old new routers s done t
      → AreRepliesOf (first_rows s old) done

  -- each key has one carrier, a store that holds it or a chunk that has it on its way, and its row there is the map's
  abbrev pub StoresAreOneMap : Type 0
  StoresAreOneMap =
      (old new : List PlanRange) (routers : ℕ) (s t : StoresValue Row) (done : List (Done Command Reply)) → IsStoreRun run old new routers s done t
      → (k : ℕ) → k < top
      → (x : Carrier) × CarriesIn t.nodes k x × ((y : Carrier) → CarriesIn t.nodes k y → y ≡ x) × (row_at t x k ≡ after_done (first_rows s old) done k)
