-- Logs of real nodes: what a node heard has a line, and what it sent has none (this project).
use Rattle.std.specs.Prelude.{◌≡◌, ◌⊎◌, ℕ, ◌≤◌, not, Bool, true, false, List, [], ◌∷◌, ◌++◌, map, if◌then◌else◌}
use Rattle.std.specs.List.{filter}
use Rattle.squall_join.specs.declared.flat.Flat.TheVariants.{Unknown}
use Rattle.squall_report.specs.declared.report.ReportKind.{ReportKind}
use Rattle.squall_report.specs.Issues.{PlanPair}
use Rattle.squall_report.specs.Cells.{CellPlace}
use Rattle.squall_report.specs.Queries.{Queries, no_queries, joined_queries, queries_by, queries_by_report}
use Rattle.squall_protocol.specs.declared.event.Node.{Node}
use Rattle.squall_protocol.specs.declared.event.Node.TheVariants.{Leader, Part}
use Rattle.squall_protocol.specs.declared.event.Event.TheVariants.{SendPart}
use Rattle.squall_protocol.specs.Worlds.{WorldValue, SameWorld, same_node, is_node, is_part}
use Rattle.squall_protocol.specs.Steps.{after_told, IsPartOf}
use Rattle.squall_protocol.specs.Promises.{IsReached}
use Rattle.squall_audit.specs.Apart.{Grows}
use Rattle.squall_audit.specs.Lines.{Line, Own, Gift, Arrival, Saying, Hearing, Happens, Trace, lines_at}

-- ---- what can be heard

-- a node that is there knows this
abbrev pub SomeNode : WorldValue → (Queries → Type 0) → Type 0
SomeNode w Knows = (n : Node) × (is_node w n ≡ true) × Knows (w.facts n)

-- Each thing that the message tells is known to some node, not all of it to one: each key loaded, each completion, the count of opened
-- sub-plans of each number, and what is issued under it.
pub record CanBeHeard (w : WorldValue) (message : Queries) : Type 0 where
  pub loaded : (c : CellPlace) (k : ℕ) → message.loaded c k ≡ true → SomeNode w (λ f. f.loaded c k ≡ true)
  pub done : (c : CellPlace) → message.done c ≡ true → SomeNode w (λ f. f.done c ≡ true)
  pub opened : (n : ℕ) → 1 ≤ message.opened n → SomeNode w (λ f. message.opened n ≤ f.opened n)
  pub issued : (n : ℕ) → (message.issued n ≡ Unknown) ⊎ SomeNode w (λ f. message.issued n ≡ f.issued n)

-- Each load and completion that the message tells is known to its partition, which is there, and each opening and issue to the leader.
pub record Rooted (w : WorldValue) (message : Queries) : Type 0 where
  pub loaded : (c : CellPlace) (k : ℕ) → message.loaded c k ≡ true → (is_part w c.part ≡ true) × ((w.facts (Part c.part)).loaded c k ≡ true)
  pub done : (c : CellPlace) → message.done c ≡ true → (is_part w c.part ≡ true) × ((w.facts (Part c.part)).done c ≡ true)
  pub opened : (n : ℕ) → message.opened n ≤ (w.facts Leader).opened n
  pub issued : (n : ℕ) → (message.issued n ≡ Unknown) ⊎ (message.issued n ≡ (w.facts Leader).issued n)

-- ---- what is written down

-- what is sent, and what a node declined to send: no log has a line of it
abbrev pub is_sent : Line → Bool
is_sent (Saying message) = true
is_sent (Own (SendPart node said) a) = true
is_sent l = false

-- the lines of a node in a run, without what is sent
abbrev pub log_at : Node → List (Node × Line) → List Line
log_at m lines = filter (λ l. not (is_sent l)) (lines_at m lines)

-- what several messages tell together
abbrev pub all_of : List Queries → Queries
all_of [] = no_queries
all_of (q ∷ qs) = joined_queries q (all_of qs)

-- A line may be written like this: not at all if it is of what is sent; if it is of a message that is heard, in parts that tell it all
-- together, such as its reports; and else as it is.
abbrev pub IsWritten : Line → List Line → Type 0
IsWritten (Hearing message) ls = (parts : List Queries) × (ls ≡ map Hearing parts) × (all_of parts ≡ message)
IsWritten l ls = ls ≡ (if is_sent l then [] else l ∷ [])

-- each line is written in such a way, one after another
abbrev pub AreWritten : (Line → List Line → Type 0) → List Line → List Line → Type 0
AreWritten Is [] ks = ks ≡ []
AreWritten Is (l ∷ ls) ks = (first : List Line) × (rest : List Line) × Is l first × (ks ≡ first ++ rest) × AreWritten Is ls rest

-- ---- runs and their logs

-- there is a run from one world to another, whose lines at each node, without what is sent, are its log
pub record HasLogs (s : WorldValue) (logs : Node → List Line) (u : WorldValue) : Type 0 where
  pub run : List (Node × Line)
  pub trace : Trace s run u
  pub written : (m : Node) → log_at m run ≡ logs m

-- there is a run from one world to another, whose lines at each node may be written as its log
pub record MayHaveLogs (s : WorldValue) (logs : Node → List Line) (u : WorldValue) : Type 0 where
  pub run : List (Node × Line)
  pub trace : Trace s run u
  pub written : (m : Node) → AreWritten IsWritten (lines_at m run) (logs m)

-- each log begins with the lines that are taken of it
abbrev pub AreFirst : (Node → List Line) → (Node → List Line) → Type 0
AreFirst taken logs = (m : Node) → Grows (taken m) (logs m)

-- ---- the next line

-- the message was sent, and the node has heard it
abbrev pub after_heard : WorldValue → Node → Queries → WorldValue
after_heard w m message = after_told (record w { messages = w.messages ++ message ∷ [] }) m message

-- The line comes next in the log of the node, and that is the world after it: the node does what the line says. If it is of a message
-- that is heard, it can be heard, and was sent right before.
abbrev pub Comes : WorldValue → Node → Line → WorldValue → Type 0
Comes w m (Hearing message) v = (is_node w m ≡ true) × CanBeHeard w message × SameWorld v (after_heard w m message)
Comes w m l v = (is_sent l ≡ false) × Happens w m l v

abbrev pub CanCome : WorldValue → Node → Line → Type 0
CanCome w m l = (v : WorldValue) × Comes w m l v

-- a line of what is heard is of one report
abbrev pub IsOfOneReport : Line → Type 0
IsOfOneReport (Hearing message) = (r : ReportKind PlanPair) × (message ≡ queries_by_report r)
IsOfOneReport l = Unit {0}

-- some lines more are taken, of the log of a node
abbrev pub with_lines : (Node → List Line) → Node → List Line → Node → List Line
with_lines taken m ls n = if same_node n m then taken n ++ ls else taken n

-- of each log the first lines were taken, and then the next line of this one can come
pub record ComesNext (u : WorldValue) (logs taken : Node → List Line) : Type 0 where
  pub node : Node
  pub line : Line
  pub next_line : Grows (taken node ++ line ∷ []) (logs node)
  pub comes : CanCome u node line

-- what can be heard is known where it comes from
abbrev pub OriginsKnow : Type 0
OriginsKnow = (w : WorldValue) (message : Queries) → IsReached w → CanBeHeard w message → Rooted w message

-- what is known of one report is known to one node, which can send it
abbrev pub OneNodeKnows : Type 0
OneNodeKnows = (w : WorldValue) (r : ReportKind PlanPair) → IsReached w → CanBeHeard w (queries_by_report r) → SomeNode w (IsPartOf (queries_by_report r))

-- what is heard can be sent first: a run that has the logs goes on to one that has the line, too
abbrev pub WhatComesHappens : Type 0
WhatComesHappens =
    (s u v : WorldValue) (taken : Node → List Line) (m : Node) (l : Line) → IsReached s → HasLogs s taken u → Comes u m l v → IsOfOneReport l → HasLogs s (with_lines taken m (l ∷ [])) v

-- A message of several reports can be heard report by report: if it can be heard, then a run that has the logs goes on to one in which the
-- node hears its reports, one after another
abbrev pub ReportsComeAlone : Type 0
ReportsComeAlone =
    (s u : WorldValue) (taken : Node → List Line) (m : Node) (rs : List (ReportKind PlanPair)) → IsReached s → HasLogs s taken u → CanCome u m (Hearing (queries_by rs))
    → (v : WorldValue) × HasLogs s (with_lines taken m (map (λ r. Hearing (queries_by_report r)) rs)) v

-- If a run has the first lines of the logs, then any other run that may be written as first lines of these logs has no line more, or the
-- next line of some log can come where the first run ends. So if none can come, then no run has the next line of any log.
abbrev pub LogsAreJudged : Type 0
LogsAreJudged =
    (s u v : WorldValue) (logs taken other : Node → List Line) → IsReached s → HasLogs s taken u → AreFirst taken logs → MayHaveLogs s other v → AreFirst other logs
    → AreFirst other taken ⊎ ComesNext u logs taken

-- the lines that are left belong to no run: of any run that may be written as first lines of these logs, all lines were taken
abbrev pub NoRunHasMore : WorldValue → (Node → List Line) → (Node → List Line) → Type 0
NoRunHasMore s logs taken = (other : Node → List Line) (v : WorldValue) → MayHaveLogs s other v → AreFirst other logs → AreFirst other taken

-- a run from a reached world leads to a reached world, of which all promises hold
abbrev pub RunsReach : Type 0
RunsReach = (s u : WorldValue) (logs : Node → List Line) → IsReached s → HasLogs s logs u → IsReached u

-- a run that has the logs may be written as these logs
abbrev pub LogsAreWritten : Type 0
LogsAreWritten = (s u : WorldValue) (logs : Node → List Line) → HasLogs s logs u → MayHaveLogs s logs u

-- ---- what a node answers

-- both lines are of one event, though perhaps not of one answer
abbrev pub AreOfOneEvent : Line → Line → Type 0
AreOfOneEvent (Own e a) (Own f b) = e ≡ f
AreOfOneEvent (Own e a) (Gift f y) = e ≡ f
AreOfOneEvent (Gift e x) (Own f b) = e ≡ f
AreOfOneEvent (Gift e x) (Gift f y) = e ≡ f
AreOfOneEvent (Arrival x a) (Arrival y b) = x ≡ y
AreOfOneEvent l k = ⊥

-- A node's own log decides what it answers. If its log is the same after two runs, then an event of it has the same line next in both: so
-- a line with another answer comes next in neither.
abbrev pub LogsAnswer : Type 0
LogsAnswer =
    (s u v : WorldValue) (logs others : Node → List Line) (m : Node) (l k : Line) → IsReached s → HasLogs s logs u → HasLogs s others v → logs m ≡ others m → AreOfOneEvent l k → CanCome u m l → CanCome v m k
    → l ≡ k
