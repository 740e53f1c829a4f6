use Rattle.std.proofs.Common.{◌<◌, ◌∙◌, length, refl, sym, ap, subst}
use Rattle.std.proofs.lemmas.Option.{slice_get_read}
use Rattle.squall_judge.specs.declared.log.Log.{Log}
use Rattle.squall_judge.specs.Entries.{IsLogAt}
use Rattle.squall_cli_audit.proofs.Places.{below, node_of}
use Rattle.squall_cli_audit.proofs.cause.first_twin.Goals as goal

pub returns-then-is_before-clause-twin : goal.returns-then-is_before-clause-twin
returns-then-is_before-clause-twin c =
    let before = c.is_before.ensures.some c.if-is_before.true in
    let log = c.index-logs-at.result in
    record {
      node = log.node;
      twin = before.0;
      before = before.1;
      one = subst (IsLogAt c.args.logs.now before.0) (sym (ap (λ (x : Log). x.node) c.index-logs-at.is)) before.2;
      other = (log, slice_get_read c.args.logs.now (length c.args.logs.now) c.loop-at.at log refl c.loop-at-test.true c.index-logs-at.is, refl);
      first = c.loop-at.invariant;
    }

pub loop-at-preserved : goal.loop-at-preserved
loop-at-preserved c = λ i j m less low a b.
    below c.loop-at.at (λ k. i < k → IsLogAt c.args.logs.now i m → IsLogAt c.args.logs.now k m → ⊥) (λ k within before p q. c.loop-at.invariant i k m before within p q)
    (λ before p q. c.is_before.ensures.none c.if-is_before.false i before
    (subst (IsLogAt c.args.logs.now i)
    (sym (node_of c.args.logs.now c.loop-at.at c.index-logs-at.result m
    (slice_get_read c.args.logs.now (length c.args.logs.now) c.loop-at.at c.index-logs-at.result refl c.loop-at-test.true c.index-logs-at.is) q)
    ∙ ap (λ (x : Log). x.node) c.index-logs-at.is) p))
    j low less a b
