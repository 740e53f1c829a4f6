use Rattle.std.specs.Prelude.{map}
use Rattle.std.proofs.Common.{ap, subst, ◌∙◌}
use Rattle.squall_router.specs.Routers.{RouterValue}
use Rattle.squall_headline.specs.Ways.{ByTake, LeadOn}
use Rattle.squall_test_acceptance.proofs.Taken.{sent_by_each}
use Rattle.squall_test_acceptance.proofs.tests.routes.part_after.Goals as goal

pub returns : goal.returns
returns c =
    let rs = c.args.reports.now in
    let router = c.take_each.new.router in
    let first = c.take_each.ensures.first ∙ ap (λ (r : RouterValue). r.first) c.in_ok-router.ensures in
    let leads = subst (λ (r : RouterValue). LeadOn (map ByTake rs) r.board router.board) c.in_ok-router.ensures c.in_ok-take_each.ensures.ways in
    sent_by_each router.first _ rs c.args.key c.part_of.result first (c.part_of.ensures (map ByTake rs) leads)
