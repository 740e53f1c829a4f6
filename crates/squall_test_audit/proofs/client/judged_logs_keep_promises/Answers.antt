use Rattle.std.proofs.Common.{List, subst}
use Rattle.squall_plan.specs.declared.range.PlanRange.{PlanRange}
use Rattle.squall_protocol.specs.Worlds.{WorldValue}
use Rattle.squall_protocol.specs.Promises.{IsReached, OneCarrier, TrueReports, RoutedIsLoaded}
use Rattle.squall_judge.specs.declared.log.Log.{Log}
use Rattle.squall_judge.specs.declared.judgment.Judgment.TheVariants.{Accepted}
use Rattle.squall_judge.specs.Judging.{IsJudged}
use Rattle.squall_test_audit.specs.Clients.{HasPromisedRun}
use Rattle.squall_test_audit.proofs.client.judged_logs_keep_promises.Goals as goal

promised : (old new : List PlanRange) (logs : List Log) → ((w : WorldValue) → IsReached w → OneCarrier w) → ((w : WorldValue) → IsReached w → TrueReports w) → ((w : WorldValue) → IsReached w → RoutedIsLoaded w)
    → IsJudged old new logs Accepted → HasPromisedRun old new logs
promised old new logs carrier reports loaded judged =
    let end = judged.2 in (judged.0, end.world, end.has, carrier end.world end.reached, reports end.world end.reached, loaded end.world end.reached)

pub returns : goal.returns
returns c = λ yes.
    promised c.args.old.now c.args.new.now c.args.logs.now c.promises.ensures.one_carrier c.promises.ensures.true_reports c.promises.ensures.routed_is_loaded
    (subst (IsJudged c.args.old.now c.args.new.now c.args.logs.now) (c.is_accepted.ensures yes) c.in_ok-judgment.ensures.ok)
