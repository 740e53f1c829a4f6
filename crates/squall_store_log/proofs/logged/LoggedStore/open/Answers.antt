use Rattle.std.proofs.Common.{◌≡◌, ◌∙◌, subst}
use Rattle.squall_store_log.specs.Steps.{Rows, first_store, IsOpened}
use Rattle.squall_store_log.proofs.Cuts.{after_cut, same_itself, is_first}
use Rattle.squall_store_log.proofs.logged.LoggedStore.open.Goals as goal

pub returns-in-Ok-clause-cut : goal.returns-in-Ok-clause-cut
returns-in-Ok-clause-cut c = λ written last n wrote cut.
    let begins : c.new-store.result ≡ first_store c.args.part = is_first c.new-store.result c.args.part c.new-store.ensures.part (c.new-store.ensures.rows ∙ c.new.ensures) in
    after_cut c.one_partition.ensures.partition (first_store c.args.part) last c.make_all.new.store written c.args.log.now c.in-Ok.rest.now n c.saturating_sub-size.result c.in-Ok.end
    c.known.ensures (same_itself c.args.part) wrote cut (subst (λ (s : Rows). IsOpened s c.args.log.now c.make_all.new.store c.in-Ok.rest.now) begins c.in-Ok.ensures.opened)
    c.in-Ok.ensures.end c.saturating_sub-size.ensures
