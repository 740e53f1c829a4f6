-- Why entries are left, as it is seen. Only contracts of private functions use these definitions.
use Rattle.std.specs.Prelude.{◌≡◌, ℕ, false, true, List, length, Option, Some}
use Rattle.std.specs.List.{slice_get}
use Rattle.squall_report.specs.declared.report.ReportKind.{ReportKind}
use Rattle.squall_report.specs.Issues.{PlanPair}
use Rattle.squall_protocol.specs.declared.event.Node.{Node}
use Rattle.squall_protocol.specs.declared.answer.Answer.{Answer}
use Rattle.squall_protocol.specs.Chunks.{ChunkValue}
use Rattle.squall_protocol.specs.Worlds.{WorldValue, is_node}
use Rattle.squall_judge.specs.declared.log.Entry.{Entry}
use Rattle.squall_judge.specs.declared.log.Entry.TheVariants.{Arrival as ArrivalEntry, Heard as HeardEntry}
use Rattle.squall_judge.specs.declared.log.Log.{Log}
use Rattle.squall_judge.specs.declared.judgment.Cause.{Cause}
use Rattle.squall_judge.specs.declared.judgment.Cause.TheVariants.{Answer as AnswersElse, NoSuch, NotGiven, NotReported, Running}

-- the entry is of a chunk that was not given
abbrev pub IsNotGiven : WorldValue → Entry → Type 0
IsNotGiven w entry = (x : ChunkValue) × (a : Answer) × (entry ≡ ArrivalEntry x a) × ((i : ℕ) → slice_get w.chunks i ≡ Some x → ⊥)

-- what an entry waits for, by what it is of
abbrev pub IsAwaited : WorldValue → Entry → Cause → Type 0
IsAwaited w entry AnswersElse = ⊥
IsAwaited w entry NoSuch = ⊥
IsAwaited w entry NotGiven = IsNotGiven w entry
IsAwaited w entry NotReported = (r : ReportKind PlanPair) × (entry ≡ HeardEntry r)
IsAwaited w entry Running = Unit {0}

-- what is seen of the entry of an index, at a node whose log was cut to so many
abbrev pub IsSeen : WorldValue → Node → ℕ → ℕ → Entry → Cause → Type 0
IsSeen w m n limit entry AnswersElse = n ≡ limit
IsSeen w m n limit entry NoSuch = is_node w m ≡ false
IsSeen w m n limit entry NotGiven = IsNotGiven w entry
IsSeen w m n limit entry NotReported = (is_node w m ≡ true) × (r : ReportKind PlanPair) × (entry ≡ HeardEntry r)
IsSeen w m n limit entry Running = Unit {0}

-- such a cause is seen of each log with an entry left
pub record AreSeen (w : WorldValue) (logs : List Log) (taken limits : List ℕ) (causes : List (Option Cause)) : Type 0 where
  pub each : length causes ≡ length logs
  pub some : (i n limit : ℕ) (log : Log) (entry : Entry) → slice_get logs i ≡ Some log → slice_get taken i ≡ Some n → slice_get limits i ≡ Some limit → slice_get log.entries.items n ≡ Some entry
      → (cause : Cause) × (slice_get causes i ≡ Some (Some cause)) × IsSeen w log.node n limit entry cause
