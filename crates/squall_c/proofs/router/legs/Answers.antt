use Rattle.std.specs.Prelude.{◌≡◌, List, Option, length}
use Rattle.std.proofs.Common.{ap, sym, subst, ◌∙◌}
use Rattle.squall_plan.specs.declared.range.PlanRange.{PlanRange}
use Rattle.squall_c.specs.declared.router.Station.{Station}
use Rattle.squall_c_values.specs.Rooms.{over}
use Rattle.squall_c.specs.Showing.{legs_of_station, that_fit}
use Rattle.squall_c.proofs.CutLegs.{same_shown}
use Rattle.squall_c.proofs.router.legs.Goals as goal

pub returns-in-Some-clause-legs : goal.returns-in-Some-clause-legs
returns-in-Some-clause-legs c =
    subst (λ (s : Option Station). c.put_legs.new.room ≡ over (that_fit (legs_of_station s c.args.lo c.args.hi) c.args.room.now) c.args.room.now) (sym c.in-Some.is)
    (c.put_legs.ensures.legs ∙ ap (λ (ls : List PlanRange). over (that_fit ls c.args.room.now) c.args.room.now) (same_shown c.in-Some.station.router c.table.result.now c.args.lo c.args.hi c.table.ensures))

pub returns-in-Some-clause-count : goal.returns-in-Some-clause-count
returns-in-Some-clause-count c =
    subst (λ (s : Option Station). c.put_legs.result ≡ length (that_fit (legs_of_station s c.args.lo c.args.hi) c.args.room.now)) (sym c.in-Some.is)
    (c.put_legs.ensures.count ∙ ap (λ (ls : List PlanRange). length (that_fit ls c.args.room.now)) (same_shown c.in-Some.station.router c.table.result.now c.args.lo c.args.hi c.table.ensures))
