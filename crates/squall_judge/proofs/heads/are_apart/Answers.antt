use Rattle.std.proofs.Common.{◌<◌, ◌∙◌, length, refl, sym, ap, subst}
use Rattle.std.proofs.lemmas.Option.{slice_get_read}
use Rattle.squall_judge.specs.declared.log.Log.{Log}
use Rattle.squall_judge.specs.Entries.{IsLogAt}
use Rattle.squall_judge.proofs.Nodes.{below, node_of, apart_from}
use Rattle.squall_judge.proofs.heads.are_apart.Goals as goal

pub returns-then-is_before-clause-err : goal.returns-then-is_before-clause-err
returns-then-is_before-clause-err c =
    let before = c.is_before.ensures.some c.if-is_before.true in (
      refl,
      (
        before.0,
        c.loop-at.at,
        c.index-logs-at.result.node,
        before.1,
        subst (IsLogAt c.args.logs.now before.0) (sym (ap (λ (x : Log). x.node) c.index-logs-at.is)) before.2,
        (
          c.index-logs-at.result,
          slice_get_read c.args.logs.now (length c.args.logs.now) c.loop-at.at c.index-logs-at.result refl c.loop-at-test.true c.index-logs-at.is,
          refl,
        ),
      ),
    )

pub loop-at-preserved : goal.loop-at-preserved
loop-at-preserved c = λ i j m less low a b.
    below c.loop-at.at (λ k. i < k → IsLogAt c.args.logs.now i m → IsLogAt c.args.logs.now k m → ⊥) (λ k within before p q. c.loop-at.invariant i k m before within p q)
    (λ before p q. c.is_before.ensures.none c.if-is_before.false i before
    (subst (IsLogAt c.args.logs.now i)
    (sym (node_of c.args.logs.now c.loop-at.at c.index-logs-at.result m
    (slice_get_read c.args.logs.now (length c.args.logs.now) c.loop-at.at c.index-logs-at.result refl c.loop-at-test.true c.index-logs-at.is) q)
    ∙ ap (λ (x : Log). x.node) c.index-logs-at.is) p))
    j low less a b

pub returns-clause-ok : goal.returns-clause-ok
returns-clause-ok c = apart_from c.args.logs.now c.loop-at.at c.loop-at-test.false (λ i j m less low a b. c.loop-at.invariant i j m less low a b)
