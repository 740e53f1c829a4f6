-- What an audit may show (this project's command line).
use Rattle.std.specs.Prelude.{◌≡◌, ◌⊎◌, ℕ, ◌<◌, ◌≤◌, List, Some}
use Rattle.std.specs.List.{slice_get}
use Rattle.squall_plan.specs.declared.range.PlanRange.{PlanRange}
use Rattle.squall_protocol.specs.declared.event.Node.{Node}
use Rattle.squall_protocol.specs.declared.event.Node.TheVariants.{Router}
use Rattle.squall_protocol.specs.Worlds.{WorldValue, most_routers, start}
use Rattle.squall_protocol.specs.Promises.{IsReached}
use Rattle.squall_audit.specs.Logs.{HasLogs}
use Rattle.squall_judge.specs.declared.log.Log.{Log}
use Rattle.squall_judge.specs.declared.judgment.Judgment.{Judgment}
use Rattle.squall_judge.specs.declared.judgment.Judgment.TheVariants.{Accepted, Refused as RefusedLogs}
use Rattle.squall_judge.specs.declared.judgment.JudgeFault.{JudgeFault}
use Rattle.squall_judge.specs.declared.judgment.JudgeFault.TheVariants.{TwoLogs, TooManyRouters, NoMemory}
use Rattle.squall_judge.specs.Entries.{IsLogAt, logs_of}
use Rattle.squall_judge.specs.Judging.{IsJudged}
use Rattle.squall_cli_lines.specs.declared.Ended.{Ended}
use Rattle.squall_cli_lines.specs.declared.Ended.TheVariants.{Fine, Refused}
use Rattle.squall_cli_audit.specs.LogFiles.{FileValue, AreLogsOf, IsFirstBadFile}
use Rattle.squall_cli_audit.specs.AuditText.{bad_text, refused_lines, accepted_text, fault_text}

-- ---- logs that are not judged

-- the log at that place is the first whose node has a log before it
pub record IsFirstTwin (logs : List Log) (j : ℕ) : Type 0 where
  pub node : Node
  pub twin : ℕ
  pub before : twin < j
  pub one : IsLogAt logs twin node
  pub other : IsLogAt logs j node
  pub first : (i k : ℕ) (m : Node) → i < k → k < j → IsLogAt logs i m → IsLogAt logs k m → ⊥

-- the log at that place is the first of a router that no world can have
pub record IsFirstStray (logs : List Log) (j : ℕ) : Type 0 where
  pub router : ℕ
  pub there : IsLogAt logs j (Router router)
  pub many : most_routers ≤ router
  pub first : (i r : ℕ) → i < j → IsLogAt logs i (Router r) → r < most_routers

-- the log at that place is the cause for which the logs are not judged
abbrev pub IsCause : List Log → JudgeFault → ℕ → Type 0
IsCause logs TwoLogs j = IsFirstTwin logs j
IsCause logs TooManyRouters j = IsFirstStray logs j
IsCause logs NoMemory j = ⊥

-- the text names the file whose log is the cause
pub record ShowsFault (files : List FileValue) (logs : List Log) (shown : List ℕ) : Type 0 where
  pub fault : JudgeFault
  pub at : ℕ
  pub cause : IsCause logs fault at
  pub file : FileValue
  pub there : slice_get files at ≡ Some file
  pub text : shown ≡ fault_text file.name fault

-- ---- what may be shown

-- Logs that a run has are counted. Else each log with entries left is named, with the line of the next one and the cause.
abbrev pub ShowsJudgment : List FileValue → List Log → List (List ℕ) → Judgment → Ended → List ℕ → Type 0
ShowsJudgment files logs nss Accepted ended shown = (ended ≡ Fine) × (shown ≡ accepted_text logs)
ShowsJudgment files logs nss (RefusedLogs taken causes) ended shown = (ended ≡ Refused) × (shown ≡ refused_lines files nss taken.items causes.items)

abbrev pub ShowsLogs : List PlanRange → List PlanRange → List FileValue → List Log → List (List ℕ) → Ended → List ℕ → Type 0
ShowsLogs old new files logs nss ended shown =
    ((judgment : Judgment) × IsJudged old new logs judgment × ShowsJudgment files logs nss judgment ended shown) ⊎ ((ended ≡ Refused) × ShowsFault files logs shown)

-- the files are logs, and the text is the verdict on these
pub record ShowsVerdict (old new : List PlanRange) (files : List FileValue) (ended : Ended) (shown : List ℕ) : Type 0 where
  pub logs : List Log
  pub numbers : List (List ℕ)
  pub are : AreLogsOf files logs numbers
  pub verdict : ShowsLogs old new files logs numbers ended shown

-- one file is no log, and the text names the first such file and its first bad line
pub record ShowsBad (files : List FileValue) (ended : Ended) (shown : List ℕ) : Type 0 where
  pub index : ℕ
  pub number : ℕ
  pub first : IsFirstBadFile files index number
  pub refused : ended ≡ Refused
  pub text : shown ≡ bad_text first.file.name number

-- what an audit of these files may show, by how it ended, if the first plans are these
abbrev pub MayShow : List PlanRange → List PlanRange → List FileValue → Ended → List ℕ → Type 0
MayShow old new files ended shown = ShowsBad files ended shown ⊎ ShowsVerdict old new files ended shown

-- ---- what it means

-- The files are logs, whose lines are counted. A run from the first world of the plans has these logs, and what holds in every run holds
-- where it ends.
pub record AreOfARun (old new : List PlanRange) (files : List FileValue) (shown : List ℕ) : Type 0 where
  pub logs : List Log
  pub numbers : List (List ℕ)
  pub are : AreLogsOf files logs numbers
  pub text : shown ≡ accepted_text logs
  pub routers : ℕ
  pub world : WorldValue
  pub run : HasLogs (start old new routers) (logs_of logs) world
  pub reached : IsReached world

-- an audit that is fine shows that the files are the logs of a run
abbrev pub AcceptedAreOfARun : Type 0
AcceptedAreOfARun = (old new : List PlanRange) (files : List FileValue) (shown : List ℕ) → MayShow old new files Fine shown → AreOfARun old new files shown
