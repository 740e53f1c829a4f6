use Rattle.std.proofs.Common.{◌<◌, ◌∙◌, length, refl, sym, ap}
use Rattle.std.proofs.lemmas.Option.{slice_get_read}
use Rattle.squall_protocol.specs.declared.event.Node.TheVariants.{Router}
use Rattle.squall_protocol.specs.Worlds.{most_routers}
use Rattle.squall_judge.specs.declared.log.Log.{Log}
use Rattle.squall_judge.specs.Entries.{IsLogAt}
use Rattle.squall_cli_audit.proofs.Places.{below, node_of}
use Rattle.squall_cli_audit.proofs.cause.first_stray.Goals as goal

pub returns-then-is_stray-clause-stray : goal.returns-then-is_stray-clause-stray
returns-then-is_stray-clause-stray c =
    let stray = c.is_stray.ensures.yes c.if-is_stray.true in
    let log = c.index-logs-at.result in
    record {
      router = stray.0;
      there = (log, slice_get_read c.args.logs.now (length c.args.logs.now) c.loop-at.at log refl c.loop-at-test.true c.index-logs-at.is, ap (λ (x : Log). x.node) c.index-logs-at.is ∙ stray.1);
      many = stray.2;
      first = c.loop-at.invariant;
    }

pub loop-at-preserved : goal.loop-at-preserved
loop-at-preserved c = λ i r low h.
    below c.loop-at.at (λ k. IsLogAt c.args.logs.now k (Router r) → r < most_routers) (λ k within q. c.loop-at.invariant k r within q)
    (λ q. c.is_stray.ensures.no c.if-is_stray.false r
    (sym (ap (λ (x : Log). x.node) c.index-logs-at.is)
    ∙ node_of c.args.logs.now c.loop-at.at c.index-logs-at.result (Router r)
    (slice_get_read c.args.logs.now (length c.args.logs.now) c.loop-at.at c.index-logs-at.result refl c.loop-at-test.true c.index-logs-at.is) q))
    i low h
