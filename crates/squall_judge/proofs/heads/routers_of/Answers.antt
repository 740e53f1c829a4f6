use Rattle.std.proofs.Common.{length, refl}
use Rattle.std.proofs.lemmas.Option.{slice_get_read}
use Rattle.squall_judge.proofs.Nodes.{one_counted, all_counted}
use Rattle.squall_judge.proofs.heads.routers_of.Goals as goal

pub returns-in-Err-clause-err : goal.returns-in-Err-clause-err
returns-in-Err-clause-err c =
    let bad = c.in-Err.ensures.err in (
      bad.0,
      (
        c.loop-at.at,
        bad.1.0,
        (
          c.index-logs-at.result,
          slice_get_read c.args.logs.now (length c.args.logs.now) c.loop-at.at c.index-logs-at.result refl c.loop-at-test.true c.index-logs-at.is,
          bad.1.1,
        ),
        bad.1.2,
      ),
    )

pub loop-at-preserved : goal.loop-at-preserved
loop-at-preserved c =
    one_counted c.args.logs.now c.loop-at.at c.loop-at.count c.in-Ok.with c.index-logs-at.result
    (slice_get_read c.args.logs.now (length c.args.logs.now) c.loop-at.at c.index-logs-at.result refl c.loop-at-test.true c.index-logs-at.is) c.loop-at.invariant c.in-Ok.ensures.ok

pub returns-clause-ok : goal.returns-clause-ok
returns-clause-ok c = all_counted c.args.logs.now c.loop-at.at c.loop-at.count c.loop-at-test.false c.loop-at.invariant
