-- What a judge says of logs (this project).
use Rattle.std.specs.Prelude.{◌≡◌, ℕ, ◌<◌, ◌≤◌, false, List, length, take, Option, Some}
use Rattle.std.specs.List.{slice_get}
use Rattle.squall_plan.specs.declared.range.PlanRange.{PlanRange}
use Rattle.squall_report.specs.declared.report.ReportKind.{ReportKind}
use Rattle.squall_report.specs.Issues.{PlanPair}
use Rattle.squall_report.specs.Queries.{queries_by_report}
use Rattle.squall_protocol.specs.declared.event.Node.{Node}
use Rattle.squall_protocol.specs.declared.answer.Answer.{Answer}
use Rattle.squall_protocol.specs.Chunks.{ChunkValue}
use Rattle.squall_protocol.specs.Worlds.{WorldValue, is_node, start}
use Rattle.squall_protocol.specs.Promises.{IsReached}
use Rattle.squall_audit.specs.Lines.{Line}
use Rattle.squall_audit.specs.Logs.{HasLogs, AreFirst, CanBeHeard, CanCome, NoRunHasMore}
use Rattle.squall_judge.specs.declared.log.Entry.{Entry}
use Rattle.squall_judge.specs.declared.log.Entry.TheVariants.{Arrival as ArrivalEntry, Heard as HeardEntry}
use Rattle.squall_judge.specs.declared.log.Log.{Log}
use Rattle.squall_judge.specs.declared.judgment.Cause.{Cause}
use Rattle.squall_judge.specs.declared.judgment.Cause.TheVariants.{Answer as AnswersElse, NoSuch, NotGiven, NotReported, Running}
use Rattle.squall_judge.specs.declared.judgment.Judgment.{Judgment}
use Rattle.squall_judge.specs.declared.judgment.Judgment.TheVariants.{Accepted, Refused}
use Rattle.squall_judge.specs.Entries.{line_of, lines_in, logs_of, taken_of, AreRouters}

-- of each log so many entries are all that it has
abbrev pub AreAllTaken : List Log → List ℕ → Type 0
AreAllTaken logs taken = (i n : ℕ) (log : Log) → slice_get logs i ≡ Some log → slice_get taken i ≡ Some n → length log.entries.items ≤ n

-- some log has more entries than so many
abbrev pub HasMore : List Log → List ℕ → Type 0
HasMore logs taken = (i : ℕ) × (n : ℕ) × (log : Log) × (slice_get logs i ≡ Some log) × (slice_get taken i ≡ Some n) × (n < length log.entries.items)

-- no run that has the first entries of the log, so many, goes on with the next one
abbrev pub NeverNext : WorldValue → Log → ℕ → Type 0
NeverNext s log n =
    (u : WorldValue) (lines : Node → List Line) (entry : Entry) → HasLogs s lines u → lines log.node ≡ take n (lines_in log) → slice_get log.entries.items n ≡ Some entry → CanCome u log.node (line_of entry)
    → ⊥

-- Why the entry that is next in the log is left, where the run ends that has all else that was taken: no run goes on with it, since the
-- node answers otherwise; no plan names the node; the chunk that came was not given; no node knows what the report tells; or it cannot come.
abbrev pub IsWhy : WorldValue → WorldValue → Log → ℕ → Entry → Cause → Type 0
IsWhy s w log n entry AnswersElse = NeverNext s log n
IsWhy s w log n entry NoSuch = is_node w log.node ≡ false
IsWhy s w log n entry NotGiven = (x : ChunkValue) × (a : Answer) × (entry ≡ ArrivalEntry x a) × ((i : ℕ) → slice_get w.chunks i ≡ Some x → ⊥)
IsWhy s w log n entry NotReported = (r : ReportKind PlanPair) × (entry ≡ HeardEntry r) × (CanBeHeard w (queries_by_report r) → ⊥)
IsWhy s w log n entry Running = CanCome w log.node (line_of entry) → ⊥

-- each log with an entry left has a cause, and so it is
pub record AreCauses (s w : WorldValue) (logs : List Log) (taken : List ℕ) (causes : List (Option Cause)) : Type 0 where
  pub each : length causes ≡ length logs
  pub some : (i n : ℕ) (log : Log) (entry : Entry) → slice_get logs i ≡ Some log → slice_get taken i ≡ Some n → slice_get log.entries.items n ≡ Some entry
      → (cause : Cause) × (slice_get causes i ≡ Some (Some cause)) × IsWhy s w log n entry cause

-- a run from the world has the logs, and so all that holds in every run holds where it ends
pub record IsAccepted (s : WorldValue) (logs : List Log) : Type 0 where
  pub world : WorldValue
  pub has : HasLogs s (logs_of logs) world
  pub reached : IsReached world

-- Of each log the first entries were taken, so many. A run from the world has all of these. Some log has more entries, and no run from
-- the world has any entry that is left. Each log with entries left has a cause, which holds where that run ends.
pub record IsRefused (s : WorldValue) (logs : List Log) (taken : List ℕ) (whys : List (Option Cause)) : Type 0 where
  pub world : WorldValue
  pub has : HasLogs s (taken_of logs taken) world
  pub first : AreFirst (taken_of logs taken) (logs_of logs)
  pub each : length taken ≡ length logs
  pub within : (i n : ℕ) (log : Log) → slice_get logs i ≡ Some log → slice_get taken i ≡ Some n → n ≤ length log.entries.items
  pub left : HasMore logs taken
  pub none : NoRunHasMore s (logs_of logs) (taken_of logs taken)
  pub causes : AreCauses s world logs taken whys

abbrev pub IsJudgedFrom : WorldValue → List Log → Judgment → Type 0
IsJudgedFrom s logs Accepted = IsAccepted s logs
IsJudgedFrom s logs (Refused taken causes) = IsRefused s logs taken.items causes.items

-- the logs are judged by runs from the world as it begins with these plans, and with as few routers as the logs need
abbrev pub IsJudged : List PlanRange → List PlanRange → List Log → Judgment → Type 0
IsJudged old new logs judgment = (routers : ℕ) × AreRouters logs routers × IsJudgedFrom (start old new routers) logs judgment
