-- What a world with rows keeps, and what is seen of it: the world with rows of the definition that this makes.
use Rattle.std.specs.Prelude.{◌≡◌, ℕ, zero, suc, ◌==◌, ◌&&◌, not, Bool, true, false, List, [], ◌∷◌, ◌++◌, Option, None, Some, slice_index_or}
use Rattle.std.specs.List.{slice_get}
use Rattle.squall_span.specs.Spans.{span_has}
use Rattle.squall_store.specs.Memory.{Values, value_at}
use Rattle.squall_protocol.specs.declared.event.Event.{Event}
use Rattle.squall_protocol.specs.declared.event.Event.TheVariants.{Give, GiveAt, Load}
use Rattle.squall_protocol.specs.declared.answer.Answer.{Answer}
use Rattle.squall_protocol.specs.declared.answer.Answer.TheVariants.{Gave, Loaded}
use Rattle.squall_rows.specs.Rows.{RowsValue}
use Rattle.squall_rows.specs.RowSteps.{Outcome, Answered, Ran}
use Rattle.squall_world.specs.Nets.{NetValue}
use Rattle.squall_world.specs.Views.{view}
use Rattle.squall_world_rows.specs.declared.sent.Sent.{Sent}
use Rattle.squall_world_rows.specs.declared.asking.RowAnswer.{RowAnswer}
use Rattle.squall_world_rows.specs.declared.asking.RowAnswer.TheVariants as answer

-- the row of a key: a value of bytes, or none
abbrev pub BytesRow : Type 0
BytesRow = Option (List ℕ)

-- a world, the rows of its partitions by their numbers, and its chunks with the rows that were copied for them
pub record RowNetValue : Type 0 where
  pub net : NetValue
  pub rows : List Values
  pub sent : List Sent

-- ---- rows

-- the row of a key at a partition: none beyond the end of the list
abbrev pub stored_in : List Values → ℕ → ℕ → BytesRow
stored_in rows p k = value_at (slice_index_or rows p []) k

-- the row of a key in a chunk
abbrev pub carried_by : Option Sent → ℕ → BytesRow
carried_by None k = None
carried_by (Some s) k = value_at s.rows k

-- the world with its rows
abbrev pub seen : RowNetValue → RowsValue BytesRow
seen n = record { world = view n.net; stored = stored_in n.rows; carried = λ i k. carried_by (slice_get n.sent i) k }

-- ---- chunks

-- the chunk brings the row of the key to the partition: it is the chunk's destination, and the chunk was not loaded
abbrev pub brings : Option Sent → ℕ → ℕ → Bool
brings None p k = false
brings (Some s) p k = not s.loaded && ((p == s.chunk.dest) && span_has s.chunk.span k)

-- the chunk of the index was loaded
abbrev pub with_loaded : ℕ → List Sent → List Sent
with_loaded i [] = []
with_loaded zero (s ∷ sent) = record s { loaded = true } ∷ sent
with_loaded (suc i) (s ∷ sent) = s ∷ with_loaded i sent

-- the answer is that a chunk was loaded
abbrev pub IsLoad : Answer → Type 0
IsLoad (Loaded report) = Unit {0}
IsLoad answer = ⊥

-- the chunk of the index was loaded, if the answer says so
abbrev pub sent_after : Answer → ℕ → List Sent → List Sent
sent_after (Loaded report) i sent = with_loaded i sent
sent_after answer i sent = sent

-- the chunk that was given is kept, with these rows for its keys
abbrev pub IsKept : Answer → Values → List Sent → List Sent → Type 0
IsKept (Gave i x) rows sent after =
    (batch : Values) × (after ≡ sent ++ record { chunk = x; rows = batch; loaded = false } ∷ []) × ((k : ℕ) → span_has x.span k ≡ true → value_at batch k ≡ value_at rows k)
IsKept answer rows sent after = after ≡ sent

-- an event that moves no rows
abbrev pub MovesNone : Event → Type 0
MovesNone (Give p most) = ⊥
MovesNone (GiveAt p k) = ⊥
MovesNone (Load i) = ⊥
MovesNone e = Unit {0}

-- ---- commands

-- the outcome of a command
abbrev pub outcome_of : RowAnswer → Outcome BytesRow
outcome_of (answer.Ran row) = Ran row
outcome_of (answer.Answered a) = Answered a
