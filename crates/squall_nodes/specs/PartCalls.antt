-- The calls of a partition as steps of a world, in which its value stands for a partition (this project).
use Rattle.std.specs.Prelude.{◌≡◌, ℕ, List, [], ◌∷◌, ◌++◌, length, Result, Ok, Err, Option, None, Some}
use Rattle.std.specs.List.{slice_get}
use Rattle.squall_report.specs.declared.report.ReportKind.{ReportKind}
use Rattle.squall_report.specs.Issues.{PlanPair}
use Rattle.squall_report.specs.Queries.{Queries, SameQueries}
use Rattle.squall_board.specs.Boards.{BoardValue, IsBoard, board_join}
use Rattle.squall_board.specs.BoardQueries.{queries_of}
use Rattle.squall_errand.specs.declared.errand.Reply.{Reply}
use Rattle.squall_part.specs.declared.giving.GiveFault.{GiveFault}
use Rattle.squall_part.specs.declared.giving.GiveFault.TheVariants.{NotOpen as GiveNotOpen, Ended as GiveEnded, NothingLeft as GiveNothingLeft, ZeroMax as GiveZeroMax, NotOutgoing as GiveNotOutgoing, Given as GiveGiven, NotHeld as GiveNotHeld, NoMemory as GiveNoMemory}
use Rattle.squall_part.specs.declared.loading.LoadFault.{LoadFault}
use Rattle.squall_part.specs.declared.loading.LoadFault.TheVariants.{NotOpen as LoadNotOpen, Stranger as LoadStranger, NoMemory as LoadNoMemory}
use Rattle.squall_part.specs.declared.loading.Load.{Load}
use Rattle.squall_part.specs.declared.loading.Load.TheVariants.{Again as LoadAgain, Loaded as LoadLoaded}
use Rattle.squall_part.specs.declared.finishing.FinishFault.{FinishFault}
use Rattle.squall_part.specs.declared.finishing.FinishFault.TheVariants.{NotOpen as FinishNotOpen, NotAll as FinishNotAll, NothingDue as FinishNothingDue, NoMemory as FinishNoMemory}
use Rattle.squall_protocol.specs.Chunks.{ChunkValue}
use Rattle.squall_protocol.specs.declared.event.Node.TheVariants.{Part}
use Rattle.squall_protocol.specs.declared.event.Event.TheVariants.{Close, Give, GiveAt, Load as LoadEvent, Finish, Deliver, Serve}
use Rattle.squall_protocol.specs.declared.answer.Answer.{Answer}
use Rattle.squall_protocol.specs.declared.answer.Answer.TheVariants.{Closed, Gave, Loaded, Again, Finished, Delivered, Served}
use Rattle.squall_protocol.specs.declared.answer.Refusal.{Refusal}
use Rattle.squall_protocol.specs.declared.answer.Refusal.TheVariants.{NotOpen, Ended, NothingLeft, ZeroMax, NotOutgoing, Given, NotHeld, Stranger, NotAll, NothingDue}
use Rattle.squall_protocol.specs.Worlds.{WorldValue}
use Rattle.squall_part.specs.Parts.{PartValue, IsPart, course_of_part, closed_by, given_by, loaded_by}
use Rattle.squall_part.specs.Giving.{IsGiven, IsGivenAt, after_close}
use Rattle.squall_part.specs.Loading.{IsLoaded, IsFinished}
use Rattle.squall_part.specs.Serving.{IsReply}
use Rattle.squall_nodes.specs.Standing.{StandsForPart, PartStands, Becomes, refused}

-- ---- a question

-- its reply is one of the world's, and nothing changes
abbrev pub ServesByStep : Type 0
ServesByStep =
    (w : WorldValue) (p k after : ℕ) (a : PartValue) (reply : Reply) → StandsForPart w p a → IsPart a → IsReply a k after reply
    → Becomes w (Serve p k after) (Some (Served reply)) (λ v. v ≡ w)

-- ---- gifts

-- why nothing is given, as a refusal of the world. None if memory was missing
abbrev pub give_refusal : GiveFault → Option Refusal
give_refusal GiveNotOpen = Some NotOpen
give_refusal GiveEnded = Some Ended
give_refusal GiveNothingLeft = Some NothingLeft
give_refusal GiveZeroMax = Some ZeroMax
give_refusal GiveNotOutgoing = Some NotOutgoing
give_refusal GiveGiven = Some Given
give_refusal GiveNotHeld = Some NotHeld
give_refusal GiveNoMemory = None

-- what a partition answered to a demand, as an answer of the world in which its chunk gets that index
abbrev pub give_answer : ℕ → Result ChunkValue GiveFault → Option Answer
give_answer index (Ok x) = Some (Gave index x)
give_answer index (Err f) = refused (give_refusal f)

-- the chunks after it: those before, and the one that was given
abbrev pub with_chunk : List ChunkValue → Result ChunkValue GiveFault → List ChunkValue
with_chunk chunks (Ok x) = chunks ++ x ∷ []
with_chunk chunks (Err f) = chunks

-- to give the first keys that are to go is the world's step, and the chunk is the world's next one
abbrev pub GivesByStep : Type 0
GivesByStep =
    (w : WorldValue) (p most : ℕ) (a b : PartValue) (r : Result ChunkValue GiveFault) → StandsForPart w p a → IsPart a → IsGiven a most r b
    → Becomes w (Give p most) (give_answer (length w.chunks) r) (PartStands w p b (with_chunk w.chunks r))

-- to give one key is the world's step, and the chunk is the world's next one
abbrev pub GivesAtByStep : Type 0
GivesAtByStep =
    (w : WorldValue) (p k : ℕ) (a b : PartValue) (r : Result ChunkValue GiveFault) → StandsForPart w p a → IsPart a → IsGivenAt a k r b
    → Becomes w (GiveAt p k) (give_answer (length w.chunks) r) (PartStands w p b (with_chunk w.chunks r))

-- to give no more is the world's step, and its answer has the course's number
abbrev pub ClosesByStep : Type 0
ClosesByStep =
    (w : WorldValue) (p : ℕ) (a : PartValue) → StandsForPart w p a → IsPart a → Becomes w (Close p) (Some (Closed (course_of_part a).number)) (PartStands w p (after_close a) w.chunks)

-- ---- loads

-- why nothing is loaded, as a refusal of the world. None if memory was missing
abbrev pub load_refusal : LoadFault → Option Refusal
load_refusal LoadNotOpen = Some NotOpen
load_refusal LoadStranger = Some Stranger
load_refusal LoadNoMemory = None

-- what a partition answered to a chunk, as an answer of the world
abbrev pub load_answer : Result Load LoadFault → Option Answer
load_answer (Ok (LoadLoaded report)) = Some (Loaded report)
load_answer (Ok LoadAgain) = Some Again
load_answer (Err f) = refused (load_refusal f)

-- to load a chunk of the world at its destination is the world's step
abbrev pub LoadsByStep : Type 0
LoadsByStep =
    (w : WorldValue) (i : ℕ) (x : ChunkValue) (a b : PartValue) (r : Result Load LoadFault) → StandsForPart w x.dest a → IsPart a → slice_get w.chunks i ≡ Some x → IsLoaded a x r b
    → Becomes w (LoadEvent i) (load_answer r) (PartStands w x.dest b w.chunks)

-- ---- completions

-- why nothing is finished, as a refusal of the world. None if memory was missing
abbrev pub finish_refusal : FinishFault → Option Refusal
finish_refusal FinishNotOpen = Some NotOpen
finish_refusal (FinishNotAll span) = Some (NotAll span)
finish_refusal FinishNothingDue = Some NothingDue
finish_refusal FinishNoMemory = None

-- what a partition answered to the end of a sub-plan, as an answer of the world
abbrev pub finish_answer : Result (ReportKind PlanPair) FinishFault → Option Answer
finish_answer (Ok report) = Some (Finished report)
finish_answer (Err f) = refused (finish_refusal f)

-- to report that all keys of a sub-plan are loaded is the world's step
abbrev pub FinishesByStep : Type 0
FinishesByStep =
    (w : WorldValue) (p s : ℕ) (a b : PartValue) (r : Result (ReportKind PlanPair) FinishFault) → StandsForPart w p a → IsPart a → IsFinished a s r b
    → Becomes w (Finish p s) (finish_answer r) (PartStands w p b w.chunks)

-- ---- what is heard

-- the message of that index says what the board says
abbrev pub IsMessageOf : WorldValue → ℕ → BoardValue → Type 0
IsMessageOf w i said = (message : Queries) × (slice_get w.messages i ≡ Some message) × SameQueries message (queries_of said)

-- the partition took the board, and is the same otherwise: what its `absorb` promises
pub record HasAbsorbed (a : PartValue) (said : BoardValue) (b : PartValue) : Type 0 where
  pub board : b.board ≡ board_join a.board said
  pub id : b.id ≡ a.id
  pub first : b.first ≡ a.first
  pub held : b.held ≡ a.held
  pub closed : (n : ℕ) → closed_by b n ≡ closed_by a n
  pub given : (n : ℕ) → given_by b n ≡ given_by a n
  pub loaded : (n : ℕ) → loaded_by b n ≡ loaded_by a n

-- to absorb a board is the world's step that delivers it as a message
abbrev pub AbsorbsByStep : Type 0
AbsorbsByStep =
    (w : WorldValue) (p i : ℕ) (a b : PartValue) (said : BoardValue) → StandsForPart w p a → IsPart a → IsBoard said → IsMessageOf w i said → HasAbsorbed a said b
    → Becomes w (Deliver i (Part p)) (Some Delivered) (PartStands w p b w.chunks)
