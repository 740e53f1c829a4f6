use Rattle.std.proofs.Common.{◌∙◌, length, refl, sym, ap, arith}
use Rattle.std.proofs.lemmas.Option.{slice_get_read}
use Rattle.squall_judge.specs.declared.log.Log.{Log}
use Rattle.squall_judge.specs.Entries.{IsLogAt}
use Rattle.squall_cli_audit.proofs.Places.{below, node_of}
use Rattle.squall_cli_audit.proofs.cause.is_before.Goals as goal

pub returns-then-same_node-clause-some : goal.returns-then-same_node-clause-some
returns-then-same_node-clause-some c = λ yes. (
  c.loop-at.at,
  c.loop-at-test.true,
  (
    c.index-logs-at.result,
    slice_get_read c.args.logs.now (length c.args.logs.now) c.loop-at.at c.index-logs-at.result refl (omega (arith, c.loop-at-test.true, c.requires)) c.index-logs-at.is,
    ap (λ (x : Log). x.node) c.index-logs-at.is ∙ c.same_node.ensures.same c.if-same_node.true,
  ),
)

pub loop-at-preserved : goal.loop-at-preserved
loop-at-preserved c =
    below c.loop-at.at (λ i. IsLogAt c.args.logs.now i c.args.node.now → ⊥) c.loop-at.invariant
    (λ h. c.same_node.ensures.apart c.if-same_node.false
    (sym (ap (λ (x : Log). x.node) c.index-logs-at.is)
    ∙ node_of c.args.logs.now c.loop-at.at c.index-logs-at.result c.args.node.now
    (slice_get_read c.args.logs.now (length c.args.logs.now) c.loop-at.at c.index-logs-at.result refl (omega (arith, c.loop-at-test.true, c.requires)) c.index-logs-at.is) h))

pub returns-clause-none : goal.returns-clause-none
returns-clause-none c = λ not i low h. c.loop-at.invariant i (omega (arith, low, c.loop-at-test.false)) h
