use Rattle.std.proofs.Common.{Ok, ap, sym}
use Rattle.squall_wire.proofs.Plans.{fits_canonical}
use Rattle.squall_wire.proofs.reading.plan.plan_from.Goals as goal

pub returns-in-Ok : goal.returns-in-Ok
returns-in-Ok c =
    let arranged = c.in-Ok.ensures.meaning.1 in
    ap Ok (sym (c.one_list.ensures c.in-Ok.plan c.args.ranges.now arranged.canonical (fits_canonical c.args.ranges.now c.requires) arranged.owners))
