-- What may happen in a world with rows: the steps of a world, with what becomes of rows then, and commands on the row of one key (this
-- project).
use Rattle.std.specs.Prelude.{◌≡◌, ◌≢◌, ℕ, ◌<◌, true, false, List, [], ◌∷◌, Some}
use Rattle.std.specs.List.{slice_get}
use Rattle.squall_key.specs.Keys.{top}
use Rattle.squall_span.specs.Spans.{span_has}
use Rattle.squall_errand.specs.declared.errand.Reply.TheVariants.{Held}
use Rattle.squall_protocol.specs.Chunks.{ChunkValue}
use Rattle.squall_protocol.specs.declared.event.Event.{Event}
use Rattle.squall_protocol.specs.declared.event.Event.TheVariants.{Give, GiveAt, Load, Serve}
use Rattle.squall_protocol.specs.declared.answer.Answer.{Answer}
use Rattle.squall_protocol.specs.declared.answer.Answer.TheVariants.{Gave, Loaded, Served}
use Rattle.squall_protocol.specs.Worlds.{SameWorld}
use Rattle.squall_protocol.specs.Steps.{Step}
use Rattle.squall_rows.specs.Rows.{RowsValue, KeepsStored, KeepsCarried}

-- ---- what happens

-- an event of the protocol; a command on a key, of which a partition is asked with the number of the last move that was followed; or
-- a restart of a partition
pub data Act (Command : Type 0) : Type 0 where
  Plain : (e : Event) → Act Command
  Ask : (p k after : ℕ) (command : Command) → Act Command
  Restart : (p : ℕ) → Act Command

-- the protocol's answer, and no command ran; the reply of a command that ran; or the partition is back
pub data Outcome (Reply : Type 0) : Type 0 where
  Answered : (a : Answer) → Outcome Reply
  Ran : (reply : Reply) → Outcome Reply
  Back : Outcome Reply

-- ---- chunks

-- the chunk has the rows of its source
abbrev pub TakesRows : {Row : Type 0} → RowsValue Row → ℕ → ChunkValue → RowsValue Row → Type 0
TakesRows w i x v = (k : ℕ) → k < top → span_has x.span k ≡ true → v.carried i k ≡ w.stored x.source k

-- its destination has the chunk's rows of the keys that it had not loaded
abbrev pub InstallsRows : {Row : Type 0} → RowsValue Row → ℕ → ChunkValue → RowsValue Row → Type 0
InstallsRows w i x v = (k : ℕ) → k < top → span_has x.span k ≡ true → w.world.loaded x.number x.dest k ≡ false → v.stored x.dest k ≡ w.carried i k

-- a chunk that is given takes the rows of its span along, and one that is loaded brings the rows of the keys that are new
abbrev pub MovesRows : {Row : Type 0} → RowsValue Row → Event → Answer → RowsValue Row → Type 0
MovesRows w (Give p most) (Gave i x) v = TakesRows w i x v
MovesRows w (GiveAt p k) (Gave i x) v = TakesRows w i x v
MovesRows w (Load i) (Loaded report) v = (x : ChunkValue) → slice_get w.world.chunks i ≡ Some x → InstallsRows w i x v
MovesRows w e a v = Unit {0}

-- a step of the protocol: it moves rows with chunks, and leaves all other rows of held keys and in chunks alone
abbrev pub PlainStep : {Row : Type 0} → RowsValue Row → Event → Answer → RowsValue Row → Type 0
PlainStep w e a v = Step w.world e a v.world × KeepsStored w v × KeepsCarried w v × MovesRows w e a v

-- a partition is back as its log has it: it holds, gave, loaded and has heard the same, and has the rows of the keys that it holds;
-- the rows of chunks that are not loaded are there, too, and any other row may be gone
abbrev pub RestartStep : {Row : Type 0} → RowsValue Row → RowsValue Row → Type 0
RestartStep w v = SameWorld v.world w.world × KeepsStored w v × KeepsCarried w v

-- ---- commands

-- rows of other keys, and of this key at other partitions, are left alone
abbrev pub KeepsOthers : {Row : Type 0} → ℕ → ℕ → RowsValue Row → RowsValue Row → Type 0
KeepsOthers p k w v = (q j : ℕ) → j < top → w.world.held q j ≡ true → ((q ≡ p) × (j ≡ k) → ⊥) → v.stored q j ≡ w.stored q j

module _ {Row Command Reply : Type 0} (run : Command → Row → Row × Reply) where
  -- the partition holds the key, the command reads its row and replies, and the row that it makes is stored
  abbrev pub RunStep : RowsValue Row → ℕ → ℕ → ℕ → Command → Reply → RowsValue Row → Type 0
  RunStep w p k after command reply v =
      (k < top) × Step w.world (Serve p k after) (Served Held) v.world
      × (v.stored p k ≡ (run command (w.stored p k)).0) × (reply ≡ (run command (w.stored p k)).1) × KeepsOthers p k w v × KeepsCarried w v

  -- a command runs if the partition answers that it holds the key, and never else
  abbrev pub RowStep : RowsValue Row → Act Command → Outcome Reply → RowsValue Row → Type 0
  RowStep w (Plain e) (Answered a) v = PlainStep w e a v
  RowStep w (Ask p k after command) (Answered a) v = (a ≢ Served Held) × PlainStep w (Serve p k after) a v
  RowStep w (Ask p k after command) (Ran reply) v = RunStep w p k after command reply v
  RowStep w (Restart p) Back v = RestartStep w v
  RowStep w a o v = ⊥

  -- these acts may have these outcomes, one after another, and that is the world after them
  abbrev pub RowRun : RowsValue Row → List (Act Command) → List (Outcome Reply) → RowsValue Row → Type 0
  RowRun w [] [] u = u ≡ w
  RowRun w (a ∷ acts) (o ∷ outcomes) u = (v : RowsValue Row) × RowStep w a o v × RowRun v acts outcomes u
  RowRun w [] (o ∷ outcomes) u = ⊥
  RowRun w (a ∷ acts) [] u = ⊥
