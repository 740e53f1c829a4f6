use Rattle.std.specs.Prelude.{map}
use Rattle.std.proofs.Common.{ap, subst, ◌∙◌}
use Rattle.squall_router.specs.Routers.{RouterValue}
use Rattle.squall_headline.specs.Ways.{ByTake, ByMerge, LeadOn, packed}
use Rattle.squall_test_acceptance.proofs.Taken.{leads_on, by_both, sent_by_both}
use Rattle.squall_test_acceptance.proofs.tests.routes.part_after_both.Goals as goal

pub returns : goal.returns
returns c rs taken =
    let reports = c.args.reports.now in
    let middle = c.take_each.new.router in
    let last = c.absorb.new.self in
    let delta = packed c.args.delta.now rs in
    let first = c.absorb.ensures.first ∙ c.take_each.ensures.first ∙ ap (λ (r : RouterValue). r.first) c.in_ok-router.ensures in
    let each = subst (λ (r : RouterValue). LeadOn (map ByTake reports) r.board middle.board) c.in_ok-router.ensures c.in_ok-take_each.ensures.ways in
    let leads = leads_on (map ByTake reports) (ByMerge delta) _ middle.board last.board each (taken, c.in_ok-absorb.ensures.takes.tells) in
    sent_by_both last.first _ reports delta c.args.key c.part_of.result first (c.part_of.ensures (by_both reports delta) leads)
