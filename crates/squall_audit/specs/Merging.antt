-- Merging of logs: events only ever enable others, so no choice has to be taken back.
use Rattle.std.specs.Prelude.{◌≢◌, ◌⊎◌, List, [], ◌∷◌, ◌++◌}
use Rattle.squall_protocol.specs.declared.event.Node.{Node}
use Rattle.squall_protocol.specs.Worlds.{WorldValue}
use Rattle.squall_protocol.specs.Promises.{IsReached}
use Rattle.squall_audit.specs.Apart.{Grows}
use Rattle.squall_audit.specs.Lines.{Line, Happens, Trace, lines_at}

-- the node can do what the line says
abbrev pub Can : WorldValue → Node → Line → Type 0
Can u m l = (later : WorldValue) × Happens u m l later

-- what one node can do, it can do after whatever another node does
abbrev pub EventsEnable : Type 0
EventsEnable = (w v u : WorldValue) (m n : Node) (l k : Line) → IsReached w → Happens w m l v → Happens w n k u → m ≢ n → Can u m l

-- the lines are the first ones of the logs
abbrev pub AreFirstOf : (Node → List Line) → List (Node × Line) → Type 0
AreFirstOf logs lines = (m : Node) → Grows (lines_at m lines) (logs m)

-- the next line of some log can happen
pub record GoesOn (u : WorldValue) (logs : Node → List Line) (merged : List (Node × Line)) : Type 0 where
  pub node : Node
  pub line : Line
  pub next_line : Grows (lines_at node merged ++ line ∷ []) (logs node)
  pub goes : Can u node line

-- Of two runs of lines of the same logs, the second has no line that the first lacks, or the next line of some log can happen where the
-- first run ends. So if none can, then no run has the next line of any log.
abbrev pub MergingIsComplete : Type 0
MergingIsComplete =
    (s u v : WorldValue) (logs : Node → List Line) (merged run : List (Node × Line)) → IsReached s → Trace s merged u → AreFirstOf logs merged → Trace s run v → AreFirstOf logs run
    → ((m : Node) → Grows (lines_at m run) (lines_at m merged)) ⊎ GoesOn u logs merged
