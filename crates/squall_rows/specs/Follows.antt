-- Rows forbid nothing: to each step of the protocol there is one with rows (this project).
use Rattle.std.specs.Prelude.{◌≡◌, ℕ, ◌<◌, true, false, Some}
use Rattle.std.specs.List.{slice_get}
use Rattle.squall_key.specs.Keys.{top}
use Rattle.squall_span.specs.Spans.{span_has}
use Rattle.squall_errand.specs.declared.errand.Reply.TheVariants.{Held}
use Rattle.squall_protocol.specs.Chunks.{ChunkValue}
use Rattle.squall_protocol.specs.declared.event.Event.{Event}
use Rattle.squall_protocol.specs.declared.event.Event.TheVariants.{Serve}
use Rattle.squall_protocol.specs.declared.answer.Answer.{Answer}
use Rattle.squall_protocol.specs.declared.answer.Answer.TheVariants.{Served}
use Rattle.squall_protocol.specs.Worlds.{WorldValue}
use Rattle.squall_protocol.specs.Steps.{Step}
use Rattle.squall_protocol.specs.Promises.{IsReached}
use Rattle.squall_rows.specs.Rows.{RowsValue}
use Rattle.squall_rows.specs.RowSteps.{PlainStep, RunStep}

-- whatever step the protocol does in a reached world, there is such a step with rows
abbrev pub RowsFollow : Type 0 → Type 0
RowsFollow Row = (w : RowsValue Row) (e : Event) (a : Answer) (u : WorldValue) → IsReached w.world → Step w.world e a u → (v : RowsValue Row) × (v.world ≡ u) × PlainStep w e a v

-- each command on a key can run if the key is held
abbrev pub CommandsFollow : {Row Command Reply : Type 0} → (Command → Row → Row × Reply) → Type 0
CommandsFollow {Row = Row} {Command = Command} {Reply = Reply} run =
    (w : RowsValue Row) (p k after : ℕ) (command : Command) (u : WorldValue) → k < top → Step w.world (Serve p k after) (Served Held) u
    → (v : RowsValue Row) × (v.world ≡ u) × ((reply : Reply) × RunStep run w p k after command reply v)

-- no partition holds a key of a chunk that the chunk's destination has not loaded
abbrev pub NewIsHeldNowhere : Type 0
NewIsHeldNowhere =
    (w : WorldValue) (i p k : ℕ) (x : ChunkValue) → IsReached w → k < top → slice_get w.chunks i ≡ Some x → span_has x.span k ≡ true → w.loaded x.number x.dest k ≡ false → w.held p k ≡ false
