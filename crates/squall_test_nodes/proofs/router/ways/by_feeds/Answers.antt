use Rattle.std.proofs.Common.{◌∙◌}
use Rattle.std.proofs.lemmas.Result.{IfOk-weaker}
use Rattle.squall_test_nodes.proofs.Pieces.{cut_in_two}
use Rattle.squall_test_nodes.proofs.router.ways.by_feeds.Goals as goal

pub returns-clause-ways : goal.returns-clause-ways
returns-clause-ways c = IfOk-weaker c.in_turn.result _ _ (λ r ways ss qs packed also one other.
    ways ss qs
    (cut_in_two ss c.args.one.now c.deref.result.now c.split_at-pieces.result.0.now c.split_at-pieces.result.1.now packed one c.in_ok-stream.ensures.each (c.deref.ensures.value ∙ c.in_ok-stream.ensures.spelled) c.split_at-pieces.ensures.by_index.0)
    (cut_in_two qs c.args.other.now c.deref-2.result.now c.split_at-others.result.0.now c.split_at-others.result.1.now also other c.in_ok-beside.ensures.each (c.deref-2.ensures.value ∙ c.in_ok-beside.ensures.spelled) c.split_at-others.ensures.by_index.0)) c.in_turn.ensures.ways
