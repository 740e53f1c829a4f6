use Rattle.std.proofs.Common.{sym, ◌∙◌, arith}
use Rattle.squall_plan.proofs.Tapes.{one_node, no_node}
use Rattle.squall_plan.proofs.tape.are_readable.Goals as goal

pub returns-in-None : goal.returns-in-None
returns-in-None c = sym (no_node c.args.nodes.now c.loop-node.node-index c.loop-node.room _ c.loop-node-test.true (sym c.room_after.ensures.value ∙ c.in-None.is)) ∙ c.loop-node.invariant.0

pub loop-node-preserved : goal.loop-node-preserved
loop-node-preserved c =
    (sym (one_node c.args.nodes.now c.loop-node.node-index c.loop-node.room _ c.in-Some.left c.loop-node-test.true (sym c.room_after.ensures.value ∙ c.in-Some.is)) ∙ c.loop-node.invariant.0, omega (arith, c.loop-node.invariant.1, c.in-Some.ensures.small))
