-- A table that is built whole.
use Rattle.std.proofs.Common.{◌≡◌, ◌<◌, ℕ, Bool, true, false, cond, not, ◌||◌, List, [], sym, subst, arith}
use Rattle.squall_key.specs.Keys.{top, part_limit}
use Rattle.squall_plan.specs.declared.range.PlanRange.{PlanRange}
use Rattle.squall_plan.specs.Ranges.{owner_of, AreRanges}
use Rattle.squall_plan.specs.PlanLaws.{are_parts, owner_low}
use Rattle.squall_course.specs.Change.{Change, ArePlans}
use Rattle.squall_course.specs.Subplans.{moves}
use Rattle.squall_course.specs.declared.moving.Move.{Move}
use Rattle.squall_course.specs.Moves.{AreMoves}
use Rattle.squall_report.specs.Facts.{Fact}
use Rattle.squall_board.specs.Route.{has_come, route}
use Rattle.squall_board.specs.MovesRoute.{route_by_moves}
use Rattle.squall_board.specs.MovesRouteLaws.{route_by_moves_is}
use Rattle.squall_table.specs.Legs.{Legs, Grows, MovesRise}
use Rattle.squall_table.specs.LegLaws.{legs_as, legs_are_ranges, grown}
use Rattle.squall_table.proofs.Moving.{moves_rise_of}

pub rising : (old new : List PlanRange) (ms : List Move) → AreMoves old new ms → MovesRise 0 ms
rising old new ms are = moves_rise_of old new 0 ms (omega arith) are.each are.rise

-- a route goes to a partition that there can be
pub route_low : (c : Change) (says : Fact → Bool) (k : ℕ) → ArePlans c.old c.new → route c says k < part_limit
route_low c says k plans = by (not (moves c.old c.new k) || has_come c says k)
  where
    by : (b : Bool) → cond b (owner_of c.new k) (owner_of c.old k) < part_limit
    by true = owner_low c.new k (are_parts c.new plans.new_ranges)
    by false = owner_low c.old k (are_parts c.old plans.old_ranges)

-- what grew from nothing by the moves has the legs of the route
pub made : (c : Change) (says : Fact → Bool) (old : List PlanRange) (ms : List Move) (number lo hi : ℕ) (was now : List PlanRange) → old ≡ c.old → number ≡ c.number → AreMoves c.old c.new ms → lo ≡ 0 → was ≡ []
    → Grows (route_by_moves number old ms says) lo hi was now → Legs (route c says) 0 hi now
made c says old ms number lo hi was now is is' are zero_is none p =
    let q : Grows (route_by_moves c.number c.old ms says) 0 hi was now = subst (λ n. Grows (route_by_moves n c.old ms says) 0 hi was now) is' (subst (λ o. Grows (route_by_moves number o ms says) 0 hi was now) is (subst (λ l. Grows (route_by_moves number old ms says) l hi was now) zero_is p)) in
    legs_as (route_by_moves c.number c.old ms says) (route c says) 0 hi now (λ k from below. sym (route_by_moves_is c says ms k are)) (grown _ 0 hi was now none q)

pub made_ranges : (c : Change) (says : Fact → Bool) (now : List PlanRange) → ArePlans c.old c.new → Legs (route c says) 0 top now → AreRanges now
made_ranges c says now plans l = legs_are_ranges (route c says) 0 top now (λ k. route_low c says k plans) (omega arith) l
