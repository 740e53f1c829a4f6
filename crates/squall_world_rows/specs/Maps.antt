-- The one map of a world with rows: of each key the row at what carries it (this project).
use Rattle.std.specs.Prelude.{◌≡◌, ◌≢◌, ℕ, ◌+◌, ◌&&◌, not, nat_lt, Bool, List, [], ◌∷◌, Option, None, if◌then◌else◌}
use Rattle.squall_key.specs.Keys.{top}
use Rattle.squall_span.specs.Spans.{span_has}
use Rattle.squall_protocol.specs.Chunks.{ChunkValue}
use Rattle.squall_protocol.specs.Worlds.{WorldValue}
use Rattle.squall_rows.specs.Rows.{RowsValue}
use Rattle.squall_protocol.specs.declared.event.Event.TheVariants.{Serve}
use Rattle.squall_protocol.specs.declared.answer.Answer.TheVariants.{Served}
use Rattle.squall_protocol.specs.Steps.{Step}
use Rattle.squall_errand.specs.declared.errand.Reply.TheVariants.{Held}
use Rattle.squall_rows.specs.RowSteps.{Act, Outcome, Plain, Ask, Answered, Ran}
use Rattle.squall_rows.specs.OneMap.{after_one, IsMapReply}
use Rattle.squall_store.specs.declared.command.Command.{Command}
use Rattle.squall_store.specs.Memory.{run_on}
use Rattle.squall_world.specs.Views.{view}
use Rattle.squall_world_rows.specs.Seen.{BytesRow, RowNetValue, seen}

-- the chunk has the key, and its destination has not loaded it
abbrev pub is_on_way : WorldValue → ℕ → ChunkValue → Bool
is_on_way w k x = span_has x.span k && not (w.loaded x.number x.dest k)

-- the row of the key in the first of these chunks that has it on its way, and none if there is no such chunk. They count from an index on
abbrev pub row_on_way : RowsValue BytesRow → ℕ → ℕ → List ChunkValue → BytesRow
row_on_way w k i [] = None
row_on_way w k i (x ∷ chunks) = if is_on_way w.world k x then w.carried i k else row_on_way w k (i + 1) chunks

-- the row of the key at the first of these partitions that holds it, or else in the chunk that has it on its way
abbrev pub row_held : RowsValue BytesRow → ℕ → List ℕ → BytesRow
row_held w k [] = row_on_way w k 0 w.world.chunks
row_held w k (p ∷ parts) = if w.world.held p k then w.stored p k else row_held w k parts

-- the map: of each key the row at the partition that holds it, or in the chunk that has it on its way. A number that is no key has none
abbrev pub map_of : RowsValue BytesRow → ℕ → BytesRow
map_of w k = if nat_lt k top then row_held w k w.world.parts else None

-- the map without rows
abbrev pub no_rows : ℕ → BytesRow
no_rows k = None

-- ---- a world with one map

-- a world, and the one map of the rows of its keys. No partition or chunk has rows here
pub record MapWorld : Type 0 where
  pub world : WorldValue
  pub map : ℕ → BytesRow

-- what a world with rows is, if it is not seen which partition or chunk has a row
abbrev pub mapped : RowNetValue → MapWorld
mapped n = record { world = view n.net; map = map_of (seen n) }

-- The act has this outcome in the world. A command runs if the partition holds the key. Otherwise it is answered as the event `Serve`
abbrev pub HasOutcome : WorldValue → Act Command → Outcome BytesRow → WorldValue → Type 0
HasOutcome w (Plain e) (Answered a) v = Step w e a v
HasOutcome w (Ask p k after command) (Answered a) v = (a ≢ Served Held) × Step w (Serve p k after) a v
HasOutcome w (Ask p k after command) (Ran reply) v = Step w (Serve p k after) (Served Held) v
HasOutcome w act outcome v = ⊥

-- the act has this outcome, a command that ran has the map's reply, and it alone changes the map, at its key
abbrev pub MapStep : MapWorld → Act Command → Outcome BytesRow → MapWorld → Type 0
MapStep w act outcome v = HasOutcome w.world act outcome v.world × IsMapReply run_on w.map act outcome × (v.map ≡ after_one run_on w.map act outcome)
