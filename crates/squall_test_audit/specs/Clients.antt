-- What a client learns of logs that are accepted (this project).
use Rattle.std.specs.Prelude.{ℕ, List}
use Rattle.squall_plan.specs.declared.range.PlanRange.{PlanRange}
use Rattle.squall_protocol.specs.Worlds.{WorldValue, start}
use Rattle.squall_protocol.specs.Promises.{OneCarrier, TrueReports, RoutedIsLoaded}
use Rattle.squall_audit.specs.Logs.{HasLogs}
use Rattle.squall_judge.specs.declared.log.Log.{Log}
use Rattle.squall_judge.specs.Entries.{logs_of}

-- A run from the plans has the logs. Where it ends each key has one carrier, all that any node has heard did happen, and a key that a
-- router sends to its new partition is loaded there.
abbrev pub HasPromisedRun : List PlanRange → List PlanRange → List Log → Type 0
HasPromisedRun old new logs = (routers : ℕ) × (u : WorldValue) × HasLogs (start old new routers) (logs_of logs) u × OneCarrier u × TrueReports u × RoutedIsLoaded u
