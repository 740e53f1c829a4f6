-- Logs as code has them, and the lines that they are (this project).
use Rattle.std.specs.Prelude.{◌≡◌, ◌⊎◌, ℕ, ◌+◌, ◌<◌, ◌≤◌, List, [], ◌∷◌, map, take, Some, if◌then◌else◌}
use Rattle.std.specs.List.{slice_get}
use Rattle.squall_report.specs.Queries.{queries_by_report}
use Rattle.squall_protocol.specs.declared.event.Node.{Node}
use Rattle.squall_protocol.specs.declared.event.Node.TheVariants.{Router}
use Rattle.squall_protocol.specs.Worlds.{most_routers, same_node}
use Rattle.squall_audit.specs.Lines.{Line, Own, Gift, Arrival, Hearing}
use Rattle.squall_judge.specs.declared.log.Entry.{Entry}
use Rattle.squall_judge.specs.declared.log.Entry.TheVariants.{Own as OwnEntry, Gift as GiftEntry, Arrival as ArrivalEntry, Heard as HeardEntry}
use Rattle.squall_judge.specs.declared.log.Log.{Log}

-- the line that an entry is
abbrev pub line_of : Entry → Line
line_of (OwnEntry e a) = Own e a
line_of (GiftEntry e x) = Gift e x
line_of (ArrivalEntry x a) = Arrival x a
line_of (HeardEntry r) = Hearing (queries_by_report r)

-- the lines of a log, one after another
abbrev pub lines_in : Log → List Line
lines_in log = map line_of log.entries.items

-- of each node the lines of its log, none if no log is of it
abbrev pub logs_of : List Log → Node → List Line
logs_of [] m = []
logs_of (log ∷ logs) m = if same_node m log.node then lines_in log else logs_of logs m

-- of each node the first lines of its log, as many as the list has at the place of that log
abbrev pub taken_of : List Log → List ℕ → Node → List Line
taken_of [] ns m = []
taken_of (log ∷ logs) [] m = []
taken_of (log ∷ logs) (n ∷ ns) m = if same_node m log.node then take n (lines_in log) else taken_of logs ns m

-- the log at a place is of that node
abbrev pub IsLogAt : List Log → ℕ → Node → Type 0
IsLogAt logs i m = (log : Log) × (slice_get logs i ≡ Some log) × (log.node ≡ m)

-- no two logs are of one node
abbrev pub AreApart : List Log → Type 0
AreApart logs = (i j : ℕ) (m : Node) → IsLogAt logs i m → IsLogAt logs j m → i ≡ j

-- two logs are of one node
abbrev pub HasTwoLogs : List Log → Type 0
HasTwoLogs logs = (i : ℕ) × (j : ℕ) × (m : Node) × (i < j) × IsLogAt logs i m × IsLogAt logs j m

-- a log is of a router that no world can have
abbrev pub HasNoRouter : List Log → Type 0
HasNoRouter logs = (i : ℕ) × (r : ℕ) × IsLogAt logs i (Router r) × (most_routers ≤ r)

-- that many routers are as few as can be: each router with a log is one of them, and so is the last of them
pub record AreRouters (logs : List Log) (n : ℕ) : Type 0 where
  pub few : n ≤ most_routers
  pub each : (i r : ℕ) → IsLogAt logs i (Router r) → r < n
  pub last : (n ≡ 0) ⊎ ((i : ℕ) × (r : ℕ) × IsLogAt logs i (Router r) × (n ≡ r + 1))

-- The number of routers after one log more: its router, if it is of one, is there, and none is that no log needs.
pub record IsCount (before : ℕ) (log : Log) (after : ℕ) : Type 0 where
  pub few : after ≤ most_routers
  pub more : before ≤ after
  pub each : (r : ℕ) → log.node ≡ Router r → r < after
  pub last : (after ≡ before) ⊎ ((r : ℕ) × (log.node ≡ Router r) × (after ≡ r + 1))
