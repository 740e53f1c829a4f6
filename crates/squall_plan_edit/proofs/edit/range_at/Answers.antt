use Rattle.std.proofs.Common.{List, subst, arith}
use Rattle.squall_plan.specs.declared.range.PlanRange.{PlanRange}
use Rattle.squall_plan.specs.Ranges.{owner_of}
use Rattle.squall_plan.proofs.Places.{ends_rise}
use Rattle.squall_plan_edit.specs.Legs.{IsHeld}
use Rattle.squall_plan_edit.proofs.Legs.{found_within, held_at}
use Rattle.squall_plan_edit.proofs.edit.range_at.Goals as goal

pub ended-requires : goal.ended-requires
ended-requires c = ends_rise 0 c.ranges-ranges.result.now c.ranges-ranges.ensures.canonical.tiles

pub bounds-ranges-ended : goal.bounds-ranges-ended
bounds-ranges-ended c = found_within 0 c.args.at c.ranges-ranges.result.now c.ended.result c.ranges-ranges.ensures.canonical.tiles (omega arith) c.requires c.ended.ensures

pub returns : goal.returns
returns c =
    let ranges = c.ranges-ranges in
    subst (λ (rs : List PlanRange). IsHeld (owner_of rs) c.args.at c.index-ranges-ended.result) ranges.ensures.value
    (held_at c.args.at ranges.result.now c.ended.result c.index-ranges-ended.result ranges.ensures.canonical c.requires c.ended.ensures c.index-ranges-ended.is)
