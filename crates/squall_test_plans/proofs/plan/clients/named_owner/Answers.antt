use Rattle.std.proofs.Common.{ap, ◌∙◌}
use Rattle.squall_plan.specs.Ranges.{names}
use Rattle.squall_test_plans.proofs.plan.clients.named_owner.Goals as goal

pub returns-clause-named : goal.returns-clause-named
returns-clause-named c =
    ap (names c.args.plan.now) c.owner.ensures
    ∙ c.owner_is_named.ensures c.args.plan.now c.args.key (rw c.ranges-ranges.ensures.value at c.ranges-ranges.ensures.canonical) (rw c.rank-rank.ensures.value at c.rank-rank.ensures.below)
