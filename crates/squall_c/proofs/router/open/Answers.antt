use Rattle.std.proofs.Common.{sym, subst}
use Rattle.squall_c.specs.declared.router.RouterSlot.{RouterSlot}
use Rattle.squall_c.specs.Opening.{IsOpened}
use Rattle.squall_c.proofs.Opened.{router_opened}
use Rattle.squall_c.proofs.router.open.Goals as goal

pub returns : goal.returns
returns c =
    let made = c.station_of_plans in
    subst (λ (slot : RouterSlot). IsOpened c.args.number c.args.old.now c.args.new.now slot) (sym c.slot_of.ensures)
    (router_opened c.args.number c.args.old.now c.args.new.now made.result made.ensures.station made.ensures.place made.ensures.numbered)
