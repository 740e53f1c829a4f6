-- The calls of a store as acts in a world with rows, in which it stands for a partition (this project).
use Rattle.std.specs.Prelude.{◌≡◌, ◌≢◌, ℕ, ◌<◌, true, false, List, length, Result, Ok, Err, Option, None, Some, OnOk}
use Rattle.std.specs.List.{slice_get}
use Rattle.squall_key.specs.Keys.{top}
use Rattle.squall_span.specs.Spans.{has, span_has}
use Rattle.squall_report.specs.declared.report.ReportKind.{ReportKind}
use Rattle.squall_report.specs.Issues.{PlanPair}
use Rattle.squall_board.specs.Boards.{BoardValue, IsBoard}
use Rattle.squall_protocol.specs.Chunks.{ChunkValue}
use Rattle.squall_protocol.specs.declared.event.Node.TheVariants.{Part}
use Rattle.squall_protocol.specs.declared.event.Event.{Event}
use Rattle.squall_protocol.specs.declared.event.Event.TheVariants.{Give, GiveAt, Load as LoadEvent, Finish, Deliver}
use Rattle.squall_protocol.specs.declared.answer.Answer.{Answer}
use Rattle.squall_protocol.specs.declared.answer.Answer.TheVariants.{Served, Delivered}
use Rattle.squall_protocol.specs.Promises.{IsReached}
use Rattle.squall_protocol.specs.Worlds.{same_node}
use Rattle.squall_part.specs.declared.giving.GiveFault.{GiveFault}
use Rattle.squall_part.specs.declared.loading.LoadFault.{LoadFault}
use Rattle.squall_part.specs.declared.loading.Load.{Load}
use Rattle.squall_part.specs.declared.finishing.FinishFault.{FinishFault}
use Rattle.squall_part.specs.Parts.{PartValue, IsPart}
use Rattle.squall_part.specs.Giving.{IsGiven, IsGivenAt}
use Rattle.squall_part.specs.Loading.{IsFinished}
use Rattle.squall_nodes.specs.Standing.{StandsForPart, OthersStand}
use Rattle.squall_nodes.specs.PartCalls.{give_answer, with_chunk, load_answer, finish_answer, IsMessageOf, HasAbsorbed}
use Rattle.squall_rows.specs.Rows.{RowsValue}
use Rattle.squall_rows.specs.RowSteps.{Outcome, Ask, Answered, Ran as RanCommand, PlainStep, RowStep}
use Rattle.squall_store.specs.declared.store.Asked.{Asked}
use Rattle.squall_store.specs.declared.store.Asked.TheVariants.{Ran, NotHeld}
use Rattle.squall_store.specs.Stores.{IsAsked, IsAnswered, NewRowsAre, OthersStay}

-- ---- one store

-- the store stands for the partition of that number: its partition does, and of the keys that it holds it has the world's rows
pub record StoreStandsFor {Row : Type 0} (w : RowsValue Row) (p : ℕ) (a : PartValue) (rows : ℕ → Row) : Type 0 where
  pub part : StandsForPart w.world p a
  pub stored : (k : ℕ) → k < top → has a.held k ≡ true → w.stored p k ≡ rows k

-- the store stands for the partition, and other values for other nodes as before, also other stores. These are the chunks, and messages
-- are as before
pub record StoreStands {Row : Type 0} (w : RowsValue Row) (p : ℕ) (a : PartValue) (rows : ℕ → Row) (on_way : List ChunkValue) (v : RowsValue Row) : Type 0 where
  pub itself : StoreStandsFor v p a rows
  pub others : OthersStand w.world v.world (Part p)
  pub stores : (q : ℕ) (b : PartValue) (others : ℕ → Row) → same_node (Part q) (Part p) ≡ false → StoreStandsFor w q b others → StoreStandsFor v q b others
  pub chunks : v.world.chunks ≡ on_way
  pub messages : v.world.messages ≡ w.world.messages

-- A call with an answer is a step with rows: the answer may be given to the event, and `After` holds of the world after it. A call without
-- one, for which memory was missing, is no step: `After` holds of the world as it is
abbrev pub MovesOn : {Row : Type 0} → RowsValue Row → Event → Option Answer → (RowsValue Row → Type 0) → Type 0
MovesOn w event None After = After w
MovesOn {Row = Row} w event (Some answer) After = (v : RowsValue Row) × PlainStep w event answer v × After v

-- ---- commands

-- what came of a command, as an outcome of the act
abbrev pub outcome_of : {Reply : Type 0} → Asked Reply → Outcome Reply
outcome_of (Ran reply) = RanCommand reply
outcome_of (NotHeld reply) = Answered (Served reply)

-- to ask a store is an act in which its partition is asked
abbrev pub AsksByAct : {Row Command Reply : Type 0} → (Command → Row → Row × Reply) → Type 0
AsksByAct {Row = Row} {Command = Command} {Reply = Reply} run =
    (w : RowsValue Row) (p k after : ℕ) (command : Command) (a : PartValue) (rows next : ℕ → Row) (asked : Asked Reply)
    → StoreStandsFor w p a rows → IsPart a → k < top → IsAsked run a k after command (rows k) (next k) asked → ((j : ℕ) → j ≢ k → next j ≡ rows j)
    → (v : RowsValue Row) × RowStep run w (Ask p k after command) (outcome_of asked) v × StoreStands w p a next w.world.chunks v

-- ---- gifts

-- the chunk of that index, if one was given, carries these rows
abbrev pub CarriesRows : {Row : Type 0} → RowsValue Row → ℕ → Result ChunkValue GiveFault → (ℕ → Row) → Type 0
CarriesRows v i (Ok x) rows = (k : ℕ) → k < top → span_has x.span k ≡ true → v.carried i k ≡ rows k
CarriesRows v i (Err f) rows = Unit {0}

-- the store stands for the partition still, the chunk is the world's next one, and it carries the store's rows
abbrev pub GaveRows : {Row : Type 0} → RowsValue Row → ℕ → PartValue → (ℕ → Row) → Result ChunkValue GiveFault → RowsValue Row → Type 0
GaveRows w p b rows r v = StoreStands w p b rows (with_chunk w.world.chunks r) v × CarriesRows v (length w.world.chunks) r rows

-- to give the first keys that are to go is a step, which takes their rows along
abbrev pub GivesWithRows : Type 0 → Type 0
GivesWithRows Row =
    (w : RowsValue Row) (p most : ℕ) (a b : PartValue) (rows : ℕ → Row) (r : Result ChunkValue GiveFault) → StoreStandsFor w p a rows → IsPart a → IsGiven a most r b
    → MovesOn w (Give p most) (give_answer (length w.world.chunks) r) (GaveRows w p b rows r)

-- to give one key is a step, which takes its row along
abbrev pub GivesAtWithRows : Type 0 → Type 0
GivesAtWithRows Row =
    (w : RowsValue Row) (p k : ℕ) (a b : PartValue) (rows : ℕ → Row) (r : Result ChunkValue GiveFault) → StoreStandsFor w p a rows → IsPart a → IsGivenAt a k r b
    → MovesOn w (GiveAt p k) (give_answer (length w.world.chunks) r) (GaveRows w p b rows r)

-- ---- loads

-- a batch has the rows that the chunk of that index carries, of each key that its destination has not loaded
abbrev pub HasChunksRows : {Row : Type 0} → RowsValue Row → ℕ → ChunkValue → (ℕ → Row) → Type 0
HasChunksRows w i x batch = (k : ℕ) → k < top → span_has x.span k ≡ true → w.world.loaded x.number x.dest k ≡ false → batch k ≡ w.carried i k

-- to load a chunk with its rows is a step, which brings the rows of the keys that are new
abbrev pub LoadsWithRows : Type 0 → Type 0
LoadsWithRows Row =
    (w : RowsValue Row) (i : ℕ) (x : ChunkValue) (a b : PartValue) (rows next batch : ℕ → Row) (r : Result Load LoadFault)
    → IsReached w.world → StoreStandsFor w x.dest a rows → IsPart a → slice_get w.world.chunks i ≡ Some x → HasChunksRows w i x batch
    → IsAnswered a x r b → OnOk r (NewRowsAre batch a x next) → OthersStay a x rows next
    → MovesOn w (LoadEvent i) (load_answer r) (StoreStands w x.dest b next w.world.chunks)

-- ---- calls that leave rows alone

-- to report that all keys of a sub-plan are loaded is a step
abbrev pub FinishesWithRows : Type 0 → Type 0
FinishesWithRows Row =
    (w : RowsValue Row) (p s : ℕ) (a b : PartValue) (rows : ℕ → Row) (r : Result (ReportKind PlanPair) FinishFault) → StoreStandsFor w p a rows → IsPart a → IsFinished a s r b
    → MovesOn w (Finish p s) (finish_answer r) (StoreStands w p b rows w.world.chunks)

-- to absorb a board is the step that delivers it as a message
abbrev pub AbsorbsWithRows : Type 0 → Type 0
AbsorbsWithRows Row =
    (w : RowsValue Row) (p i : ℕ) (a b : PartValue) (rows : ℕ → Row) (said : BoardValue)
    → StoreStandsFor w p a rows → IsPart a → IsBoard said → IsMessageOf w.world i said → HasAbsorbed a said b
    → MovesOn w (Deliver i (Part p)) (Some Delivered) (StoreStands w p b rows w.world.chunks)
