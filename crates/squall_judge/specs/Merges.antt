-- Logs, merged as far as their entries come. Only contracts of private functions use these definitions.
use Rattle.std.specs.Prelude.{◌≡◌, ◌⊎◌, ℕ, ◌+◌, ◌<◌, ◌≤◌, List, length, take, replicate, set, Option, None, Some}
use Rattle.std.specs.List.{slice_get}
use Rattle.squall_plan.specs.declared.range.PlanRange.{PlanRange}
use Rattle.squall_protocol.specs.declared.event.Node.{Node}
use Rattle.squall_protocol.specs.Worlds.{WorldValue, start}
use Rattle.squall_protocol.specs.Promises.{IsReached}
use Rattle.squall_audit.specs.Lines.{Line}
use Rattle.squall_audit.specs.Logs.{HasLogs, Comes, CanCome, NoRunHasMore}
use Rattle.squall_world.specs.Views.{view}
use Rattle.squall_judge.specs.declared.log.Entry.{Entry}
use Rattle.squall_judge.specs.declared.log.Log.{Log}
use Rattle.squall_judge.specs.declared.turn.Turn.{Turn}
use Rattle.squall_judge.specs.declared.turn.Turn.TheVariants.{Taken, Waits, Never}
use Rattle.squall_judge.specs.declared.merge.Round.{Round}
use Rattle.squall_judge.specs.declared.merge.Round.TheVariants.{Moved, Stuck, Never as NeverAt}
use Rattle.squall_judge.specs.declared.merge.Merge.{Merge}
use Rattle.squall_judge.specs.Entries.{line_of, lines_in, logs_of, taken_of}
use Rattle.squall_judge.specs.Turns.{IsOther}
use Rattle.squall_judge.specs.Stages.{KnowsChunks}
use Rattle.squall_judge.specs.Judging.{NeverNext}

-- the world of a merge
abbrev pub world_of : Merge → WorldValue
world_of g = view g.stage.world

-- of each log at most all entries are to be taken
pub record AreLimits (logs : List Log) (limits : List ℕ) : Type 0 where
  pub each : length limits ≡ length logs
  pub within : (i n : ℕ) (log : Log) → slice_get logs i ≡ Some log → slice_get limits i ≡ Some n → n ≤ length log.entries.items

-- each number of the first list is at most that of the second at the same place
abbrev pub AreAtMost : List ℕ → List ℕ → Type 0
AreAtMost ns ks = (i n k : ℕ) → slice_get ns i ≡ Some n → slice_get ks i ≡ Some k → n ≤ k

-- the chunks given are known, and of each log no more entries were taken than its limit
pub record IsReady (logs : List Log) (limits : List ℕ) (g : Merge) : Type 0 where
  pub chunks : KnowsChunks g.stage
  pub each : length g.taken.items ≡ length logs
  pub within : AreAtMost g.taken.items limits

-- the next entry of the log at a place, below its limit
pub record IsNextEntry (logs : List Log) (limits taken : List ℕ) (i : ℕ) (log : Log) (entry : Entry) : Type 0 where
  pub count : ℕ
  pub limit : ℕ
  pub log_at : slice_get logs i ≡ Some log
  pub count_at : slice_get taken i ≡ Some count
  pub limit_at : slice_get limits i ≡ Some limit
  pub below : count < limit
  pub entry_at : slice_get log.entries.items count ≡ Some entry

-- the log at the place has no next entry below its limit that can come
abbrev pub IsBlocked : List Log → List ℕ → List ℕ → WorldValue → ℕ → Type 0
IsBlocked logs limits taken w i = (log : Log) (entry : Entry) → IsNextEntry logs limits taken i log entry → CanCome w log.node (line_of entry) → ⊥

-- nothing was taken
pub record IsSameMerge (g h : Merge) : Type 0 where
  pub world : world_of h ≡ world_of g
  pub chunks : KnowsChunks h.stage
  pub taken : h.taken.items ≡ g.taken.items

-- the next entry of the log at a place was taken
pub record HasTakenAt (logs : List Log) (limits : List ℕ) (g : Merge) (i : ℕ) (h : Merge) : Type 0 where
  pub log : Log
  pub entry : Entry
  pub next : IsNextEntry logs limits g.taken.items i log entry
  pub comes : Comes (world_of g) log.node (line_of entry) (world_of h)
  pub chunks : KnowsChunks h.stage
  pub put : h.taken.items ≡ set g.taken.items i (next.count + 1)

-- the node of the log at a place answers otherwise than its next entry says
pub record IsWrongAt (logs : List Log) (limits : List ℕ) (g : Merge) (i : ℕ) (h : Merge) : Type 0 where
  pub log : Log
  pub entry : Entry
  pub next : IsNextEntry logs limits g.taken.items i log entry
  pub other : IsOther (world_of g) log.node (line_of entry)
  pub taken : h.taken.items ≡ g.taken.items

-- what came of the next entry of the log at a place
abbrev pub IsNext : List Log → List ℕ → Merge → ℕ → Turn → Merge → Type 0
IsNext logs limits g i Taken h = HasTakenAt logs limits g i h
IsNext logs limits g i Waits h = IsSameMerge g h × IsBlocked logs limits g.taken.items (world_of g) i
IsNext logs limits g i Never h = IsWrongAt logs limits g i h

-- what came of a round over the logs
abbrev pub IsRound : List Log → List ℕ → Merge → Round → Merge → Type 0
IsRound logs limits g (Moved i) h = HasTakenAt logs limits g i h
IsRound logs limits g Stuck h = IsSameMerge g h × ((i : ℕ) → i < length logs → IsBlocked logs limits g.taken.items (world_of g) i)
IsRound logs limits g (NeverAt i) h = IsWrongAt logs limits g i h

-- a run that has what was taken before goes on to one that has what is taken now
abbrev pub GoesOn : List Log → WorldValue → List ℕ → WorldValue → List ℕ → Type 0
GoesOn logs w ns v ms = (s : WorldValue) → IsReached s → HasLogs s (taken_of logs ns) w → HasLogs s (taken_of logs ms) v

-- entries were taken until none could come
pub record IsOver (logs : List Log) (limits : List ℕ) (g h : Merge) : Type 0 where
  pub goes : GoesOn logs (world_of g) g.taken.items (world_of h) h.taken.items
  pub ready : IsReady logs limits h
  pub blocked : (i : ℕ) → i < length logs → IsBlocked logs limits h.taken.items (world_of h) i

-- entries were taken until the node of the log at a place answered otherwise than its next entry says
pub record IsWrong (logs : List Log) (limits : List ℕ) (g : Merge) (i : ℕ) (h : Merge) : Type 0 where
  pub world : WorldValue
  pub log : Log
  pub entry : Entry
  pub goes : GoesOn logs (world_of g) g.taken.items world h.taken.items
  pub next : IsNextEntry logs limits h.taken.items i log entry
  pub other : IsOther world log.node (line_of entry)

abbrev pub HasRun : List Log → List ℕ → Merge → Option ℕ → Merge → Type 0
HasRun logs limits g None h = IsOver logs limits g h
HasRun logs limits g (Some i) h = IsWrong logs limits g i h

-- a merge of which no entry was taken, in the world as it begins
pub record IsFresh (old new : List PlanRange) (routers : ℕ) (logs : List Log) (g : Merge) : Type 0 where
  pub chunks : KnowsChunks g.stage
  pub world : world_of g ≡ start old new routers
  pub reached : IsReached (world_of g)
  pub none : g.taken.items ≡ replicate (length logs) 0

-- below its limit a log has all its entries, or only such as come before one that no run has
pub record AreCut (s : WorldValue) (logs : List Log) (limits : List ℕ) : Type 0 where
  pub most : AreLimits logs limits
  pub cut : (i n : ℕ) (log : Log) → slice_get logs i ≡ Some log → slice_get limits i ≡ Some n → (n ≡ length log.entries.items) ⊎ NeverNext s log n

-- the run to this world has what was taken, and no run has more of any log
pub record IsEnd (s w : WorldValue) (logs : List Log) (taken : List ℕ) : Type 0 where
  pub has : HasLogs s (taken_of logs taken) w
  pub reached : IsReached w
  pub each : length taken ≡ length logs
  pub within : (i n : ℕ) (log : Log) → slice_get logs i ≡ Some log → slice_get taken i ≡ Some n → n ≤ length log.entries.items
  pub none : NoRunHasMore s (logs_of logs) (taken_of logs taken)

-- no next entry of any log can come in the world
abbrev pub AreStuck : WorldValue → List Log → List ℕ → Type 0
AreStuck w logs taken =
    (i n : ℕ) (log : Log) (entry : Entry) → slice_get logs i ≡ Some log → slice_get taken i ≡ Some n → slice_get log.entries.items n ≡ Some entry → CanCome w log.node (line_of entry) → ⊥

-- so it is of this merge, with logs that were cut to so many
pub record IsEndOf (s : WorldValue) (logs : List Log) (limits : List ℕ) (g : Merge) : Type 0 where
  pub end : IsEnd s (world_of g) logs g.taken.items
  pub chunks : KnowsChunks g.stage
  pub cut : AreCut s logs limits
  pub stuck : AreStuck (world_of g) logs g.taken.items
