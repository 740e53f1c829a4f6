-- What is shown of logs that were judged, or were not.
use Rattle.std.proofs.Common.{◌≡◌, ◌∙◌, inl, inr, ℕ, List, ◌++◌, map, length, Result, Ok, Err, IfOk, ap, sym, subst}
use Rattle.std.specs.declared.alloc.AllocError.{AllocError}
use Rattle.std.proofs.lemmas.List.{length-map}
use Rattle.squall_plan.specs.declared.range.PlanRange.{PlanRange}
use Rattle.squall_judge.specs.declared.log.Log.{Log}
use Rattle.squall_judge.specs.declared.judgment.Judgment.{Judgment}
use Rattle.squall_judge.specs.declared.judgment.Judgment.TheVariants.{Accepted, Refused as RefusedLogs}
use Rattle.squall_judge.specs.Judging.{IsJudged}
use Rattle.squall_cli_lines.specs.declared.Ended.{Ended}
use Rattle.squall_cli_lines.specs.declared.Ended.TheVariants.{Refused}
use Rattle.squall_cli_audit.specs.LogFiles.{FileValue, AreLogsOf}
use Rattle.squall_cli_audit.specs.Audits.{ShowsJudgment, ShowsFault, ShowsLogs}
use Rattle.squall_cli_audit.specs.Read.{IsOfLogs}
use Rattle.squall_cli_audit.proofs.Lists.{as_many_logs, as_many_lines}

-- as many lists of lines as files
pub lines_fit : {A : Type 0} (g : A → List ℕ) (fs : List FileValue) (logs : List Log) (lines : List A) → AreLogsOf fs logs (map g lines) → length lines ≡ length fs
lines_fit g fs logs lines a = sym (length-map lines g) ∙ as_many_lines fs logs (map g lines) a

-- the logs that were judged are as many
pub logs_fit : (fs : List FileValue) (logs lent : List Log) (nss : List (List ℕ)) → lent ≡ logs → AreLogsOf fs logs nss → length lent ≡ length fs
logs_fit fs logs lent nss e a = ap length e ∙ as_many_logs fs logs nss a

-- a judgment says how many entries were taken of as many logs
pub taken_fit : (old new : List PlanRange) (logs : List Log) (judgment : Judgment) (n : ℕ) → length logs ≡ n → IsJudged old new logs judgment → IsOfLogs judgment n
taken_fit old new logs Accepted n e judged = tt
taken_fit old new logs (RefusedLogs taken causes) n e judged = (judged.2.each ∙ e, judged.2.causes.each ∙ e)

-- what is shown of a judgment is what may be shown of the logs
pub judgment_shows : (old new : List PlanRange) (files : List FileValue) (logs lent : List Log) (nss : List (List ℕ)) (judgment : Judgment) (r : Result Ended AllocError) (before after : List ℕ) → lent ≡ logs → IsJudged old new lent judgment → IfOk r (λ ended. (x : List ℕ) × (after ≡ before ++ x) × ShowsJudgment files logs nss judgment ended x) → IfOk r (λ ended. (x : List ℕ) × (after ≡ before ++ x) × ShowsLogs old new files logs nss ended x)
judgment_shows old new files logs lent nss judgment (Ok ended) before after e judged h = (h.0, h.1, inl (judgment, subst (λ ls. IsJudged old new ls judgment) e judged, h.2))
judgment_shows old new files logs lent nss judgment (Err failed) before after e judged h = tt

-- and so is why the logs are not judged
pub fault_shows : (old new : List PlanRange) (files : List FileValue) (logs lent : List Log) (nss : List (List ℕ)) (r : Result Ended AllocError) (before after : List ℕ) → lent ≡ logs → IfOk r (λ ended. (x : List ℕ) × (after ≡ before ++ x) × (ended ≡ Refused) × ShowsFault files lent x) → IfOk r (λ ended. (x : List ℕ) × (after ≡ before ++ x) × ShowsLogs old new files logs nss ended x)
fault_shows old new files logs lent nss (Ok ended) before after e h = (h.0, h.1, inr (h.2, subst (λ ls. ShowsFault files ls h.0) e h.3))
fault_shows old new files logs lent nss (Err failed) before after e h = tt
